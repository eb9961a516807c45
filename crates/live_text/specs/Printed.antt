-- The text of what a live text came to.
use Rattle.std.specs.Prelude.{ℕ, ◌+◌, List, [], ◌∷◌, Option, Some, None, codes, ◌≡◌, ◌++◌}
use Rattle.std.specs.Fmt.{decimal}
use Rattle.std.specs.String.{string_bytes}
use Rattle.std.specs.declared.string.String.{String}
use Rattle.lb_base.specs.declared.value.Seqnum.{Seqnum}
use Rattle.lb_base.specs.Quoted.{quoted}
use Rattle.script_lang.specs.Printed.{◌&◌}
use Rattle.plan_lang.specs.Printed.{tags_text}
use Rattle.live_text.specs.declared.answers.LiveAnswer.{LiveAnswer}
use Rattle.live_text.specs.declared.answers.LiveAnswer.TheVariants as answer
use Rattle.live_text.specs.declared.answers.LiveRan.{LiveRan}
use Rattle.live_text.specs.Outputs.{Appended, IsRunOf}
use Rattle.live_text.specs.declared.text.LiveText.{LiveText}

-- a buffer holds this text behind what it held
abbrev pub Appends : {A : Type 0} → String A → List ℕ → String A → Type 0
Appends old text new = string_bytes new ≡ string_bytes old ++ text

-- `SEQ I TAGS TEXT`
abbrev pub record_line : ℕ → Appended → List ℕ
record_line seq x =
    decimal seq & codes " " & decimal x.0 & codes " " & tags_text x.1.tags & codes " " & quoted x.1.bytes & codes "\n"

-- the lines of records, of which the first has this seqnum
abbrev pub record_lines : ℕ → List Appended → List ℕ
record_lines seq [] = []
record_lines seq (x ∷ xs) = record_line seq x & record_lines (seq + 1) xs

-- a seqnum, or `none`
abbrev pub found_text : Option Seqnum → List ℕ
found_text None = codes "none"
found_text (Some seq) = decimal seq.0

abbrev pub read_line : List ℕ → List ℕ → ℕ → List ℕ
read_line word found p = word & found & codes " at " & decimal p & codes "\n"

abbrev pub answer_line : LiveAnswer → List ℕ
answer_line (answer.Append seq) = codes "append " & decimal seq.0 & codes "\n"
answer_line (answer.Next seq p) = read_line (codes "next ") (found_text seq) p
answer_line (answer.Prev seq p) = read_line (codes "prev ") (found_text seq) p
answer_line (answer.Count n p) = read_line (codes "count ") (decimal n) p

abbrev pub answer_lines : List LiveAnswer → List ℕ
answer_lines [] = []
answer_lines (a ∷ answers) = answer_line a & answer_lines answers

-- each worker's answers behind the line `worker I`, from this number on
abbrev pub worker_lines : ℕ → List (List LiveAnswer) → List ℕ
worker_lines worker [] = []
worker_lines worker (answers ∷ more) =
    codes "worker " & decimal worker & codes "\n" & answer_lines answers & worker_lines (worker + 1) more

abbrev pub ran_text : LiveRan → List ℕ
ran_text ran = codes "list\n" & record_lines 1 ran.list & worker_lines 1 ran.answers & codes "end\n"

-- the text is one of those that are right for a live text
abbrev pub IsOutputOf : LiveText → List ℕ → Type 0
IsOutputOf text output = (ran : LiveRan) × IsRunOf text ran × (output ≡ ran_text ran)
