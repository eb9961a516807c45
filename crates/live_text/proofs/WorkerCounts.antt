-- A live text has 1 to 16 workers.
use Rattle.std.proofs.Common.{◌≡◌, ℕ, ◌≤◌, Bool, true, false, cond, List, [], ◌∷◌, Option, Some, None, Result, Ok, Err, subst, ap, arith}
use Rattle.std.specs.Prelude.{bytes_eq, codes, IfSome, nat_le}
use Rattle.std.proofs.lemmas.Bool.Decides.{nat_tests}
use Rattle.boki_types.specs.declared.kind.Kind.{Kind}
use Rattle.boki_model.specs.Plans.{in_bounds}
use Rattle.line_text.specs.declared.checked.Checked.{Checked}
use Rattle.line_text.specs.declared.checked.Checked.TheVariants as r
use Rattle.line_text.specs.declared.lines.LexedLine.{LexedLine}
use Rattle.line_text.specs.declared.lines.LexedLine.TheVariants as l
use Rattle.line_text.specs.declared.token.Token.{Token}
use Rattle.line_text.specs.declared.token.Token.TheVariants as t
use Rattle.line_text.specs.Checks.{result_of_checked}
use Rattle.line_text.specs.Fields.{number_at}
use Rattle.line_text.specs.Texts.{line_within, read_lexed_line, read_checked_line, read_text_line}
use Rattle.line_text.proofs.FieldsInRange.{IfLineValid, bind_if_valid, at_end_if_valid, number_at_in_range, split_true}
use Rattle.live_text.specs.declared.draft.LiveDraft.{LiveDraft}
use Rattle.live_text.specs.declared.text.LiveOp.{LiveOp}
use Rattle.live_text.specs.Reading.{workers_behind, workers_of, op_line_of, with_workers, with_line, live_line_by, live_line}

abbrev pub IsFew : Option ℕ → Type 0
IsFew workers = IfSome workers (λ n. (1 ≤ n) × (n ≤ 16))

few : (n : ℕ) → in_bounds 1 16 n ≡ true → (1 ≤ n) × (n ≤ 16)
few n e =
    let s = split_true (nat_le 1 n) (nat_le n 16) e in
    (grind (arith, nat_tests, s.0), grind (arith, nat_tests, s.1))

workers_by : (b : Bool) (ts : List Token) → IfLineValid (in_bounds 1 16) (cond b (workers_behind ts) None)
workers_by true ts = bind_if_valid (in_bounds 1 16) (in_bounds 1 16) (number_at 1 16 ts) _ (number_at_in_range 1 16 ts) (λ x f. at_end_if_valid (in_bounds 1 16) x.1 x.0 f)
workers_by false ts = tt

workers_few : (ts : List Token) → IfLineValid (in_bounds 1 16) (workers_of ts)
workers_few [] = tt
workers_few (t.Name x ∷ ts) = workers_by (bytes_eq x (codes "live")) ts
workers_few (t.Numeral n ∷ ts) = tt
workers_few (t.Dotted x ∷ ts) = tt
workers_few (t.Text x ∷ ts) = tt
workers_few (t.Keyword k ∷ ts) = tt
workers_few (t.Op o ∷ ts) = tt
workers_few (t.Minus b ∷ ts) = tt
workers_few (t.Punctuation m ∷ ts) = tt

first_line_few : (d next : LiveDraft) (o : Option (Checked ℕ)) → IfLineValid (in_bounds 1 16) o → with_workers d (result_of_checked o) ≡ Ok next → IsFew next.workers
first_line_few d next None w e = absurd (cc e)
first_line_few d next (Some r.OutOfRange) w e = absurd (cc e)
first_line_few d next (Some r.TooDeep) w e = absurd (cc e)
first_line_few d next (Some (r.Valid n)) w e =
    let same : Some n ≡ next.workers = cc e in
    subst (λ (m : Option ℕ). IsFew m) same (few n w)

other_line_few : (d next : LiveDraft) (found : Result (ℕ × LiveOp) Kind) → IsFew d.workers → with_line d found ≡ Ok next → IsFew next.workers
other_line_few d next (Err k) w e = absurd (cc e)
other_line_few d next (Ok x) w e =
    let same : d.workers ≡ next.workers = cc e in
    subst (λ (m : Option ℕ). IsFew m) same w

tokens_few : (ts : List Token) (d next : LiveDraft) (workers : Option ℕ) → IsFew d.workers → live_line_by workers ts d ≡ Ok next → IsFew next.workers
tokens_few ts d next None w e = first_line_few d next (workers_of ts) (workers_few ts) e
tokens_few ts d next (Some n) w e = other_line_few d next (result_of_checked (op_line_of n ts)) w e

lexed_few : (n : ℕ) (d next : LiveDraft) (line : LexedLine) → IsFew d.workers → read_lexed_line live_line n line d ≡ Ok next → IsFew next.workers
lexed_few n d next l.Skipped w e =
    let same : d.workers ≡ next.workers = cc e in
    subst (λ (m : Option ℕ). IsFew m) same w
lexed_few n d next (l.Tokens ts) w e = tokens_few ts d next d.workers w e
lexed_few n d next l.Invalid w e = absurd (cc e)

checked_few : (n : ℕ) (d next : LiveDraft) (line : Result LexedLine Kind) → IsFew d.workers → read_checked_line live_line n line d ≡ Ok next → IsFew next.workers
checked_few n d next (Err k) w e = absurd (cc e)
checked_few n d next (Ok line) w e = lexed_few n d next line w e

-- a line more
pub line_few : (most n : ℕ) (line : List ℕ) (d next : LiveDraft) → IsFew d.workers → read_text_line live_line most n line d ≡ Ok next → IsFew next.workers
line_few most n line d next w e = checked_few n d next (line_within most n line) w e
