-- The lines of what the book answers.
use Rattle.std.specs.Prelude.{ℕ, Bool, true, false, List, [], Option, Some, None}
use Rattle.std.specs.Option.{option_map_or}
use Rattle.std.specs.Str.{IsUtf8}
use Rattle.lb_base.specs.declared.value.Record.{Record}
use Rattle.lb_base.specs.declared.value.Seqnum.{Seqnum}
use Rattle.boki_types.specs.declared.line.Line.{Line}
use Rattle.boki_types.specs.declared.line.Line.TheVariants as line
use Rattle.boki_types.specs.declared.log.Cut.{Cut}
use Rattle.boki_types.specs.declared.log.Cut.TheVariants as c
use Rattle.boki_types.specs.declared.log.Ending.{Ending}
use Rattle.boki_types.specs.declared.log.Ending.TheVariants as e
use Rattle.boki_types.specs.declared.log.Settle.{Settle}
use Rattle.boki_types.specs.declared.log.Settle.TheVariants.{Placed, Taken}
use Rattle.boki_model.specs.Order.{at_seq}
use Rattle.boki_machine.specs.Machine.{user_text}
use Rattle.book_api.specs.Books.{BookState, ordered}
use Rattle.step_log.specs.Sound.{body_of}

-- of a cut, by the length of the list behind it
abbrev pub line_of_cut : ℕ → Cut → Line
line_of_cut length c.Same = line.Same
line_of_cut length (c.Entry n) = line.Cut n length

abbrev pub line_of_ending : Ending → Line
line_of_ending (e.Sent sent) = line.Sent sent
line_of_ending e.Idle = line.Absent
line_of_ending (e.Unfinished path) = line.Unfinished path

abbrev pub line_of_settle : Option Settle → Line
line_of_settle (Some (Placed seq)) = line.Placed seq
line_of_settle (Some (Taken seq)) = line.Taken seq
line_of_settle None = line.Waits

abbrev pub line_of_set : Bool → Line
line_of_set true = line.Set
line_of_set false = line.Absent

abbrev pub line_of_aux : Option (List ℕ) → Line
line_of_aux (Some text) = line.Aux text
line_of_aux None = line.Absent

-- auxiliary data is text
abbrev pub HasUtf8 : Option (List ℕ) → Type 0
HasUtf8 (Some text) = IsUtf8 text
HasUtf8 None = Unit {0}

-- the user's text of the ordered record at a seqnum
abbrev pub text_in : BookState → Seqnum → List ℕ
text_in book seq = option_map_or (λ (r : Record). user_text (body_of r.bytes)) (at_seq seq.0 (ordered book)) []

-- of a read, with that text
abbrev pub line_found : BookState → Option Seqnum → Line
line_found book (Some seq) = line.Found seq (text_in book seq)
line_found book None = line.Absent

abbrev pub HasText : BookState → Option Seqnum → Type 0
HasText book (Some seq) = IsUtf8 (text_in book seq)
HasText book None = Unit {0}
