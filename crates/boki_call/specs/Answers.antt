-- What the program answers to a request, or to words that make none.
use Rattle.std.specs.Prelude.{◌≢◌, ℕ, Bool, true, false, List, Option, Some, IfSome}
use Rattle.command_line.specs.declared.request.Request.{Request}
use Rattle.command_line.specs.declared.request.Request.TheVariants.{Run, Judge, Check, Make, Live}
use Rattle.nemesis_types.specs.Automaton.{Automaton}
use Rattle.nemesis_types.specs.Kept.{NumberedNemesis}
use Rattle.call_base.specs.declared.status.Status.{Status}
use Rattle.call_base.specs.declared.status.Status.TheVariants.{Usage, ReadFault}
use Rattle.call_base.specs.Due.{Meets, usage}
use Rattle.check_call.specs.Plans.{check_due}
use Rattle.judge_agrees.specs.Judged.{judge_due}
use Rattle.live_call.specs.Live.{MeetsLive}
use Rattle.make_call.specs.Summary.{asked_due}
use Rattle.run_call.specs.Runs.{run_due}
use Rattle.run_call.specs.Words.{is_handed, kept_of}

-- A run, where its nemeses are handed in: what is due on the text that the source had left. Else the usage line.
abbrev pub AnswersRun : Bool → Bool → List NumberedNemesis → Status → Option (List ℕ) → Option (List ℕ) → Option (List ℕ) → Type 0
AnswersRun true json kept s left old new = (s ≢ Usage) × IfSome left (λ text. Meets s (run_due json kept text) old new)
AnswersRun false json kept s left old new = (s ≢ ReadFault) × Meets s usage old new

-- By how many nemeses are handed in and what they are, the request, the status, what the source had left, and what the sink held
-- before and holds now: what the own call of each command that is built says, and the usage line for all else.
abbrev pub Answers : ℕ → List Automaton → Option Request → Status → Option (List ℕ) → Option (List ℕ) → Option (List ℕ) → Type 0
Answers count handed (Some (Run with json)) s left old new =
    AnswersRun (is_handed count with) json (kept_of with handed) s left old new
Answers count handed (Some Judge) s left old new = (s ≢ Usage) × IfSome left (λ text. Meets s (judge_due text) old new)
Answers count handed (Some Check) s left old new = (s ≢ Usage) × IfSome left (λ text. Meets s (check_due text) old new)
Answers count handed (Some Live) s left old new = (s ≢ Usage) × IfSome left (λ text. MeetsLive s text old new)
Answers count handed (Some (Make n plan)) s left old new = (s ≢ Usage) × Meets s (asked_due (n, plan)) old new
Answers count handed _ s left old new = (s ≢ ReadFault) × Meets s usage old new

-- the request is of a command that is built and reads its source
abbrev pub is_read : ℕ → Option Request → Bool
is_read count (Some (Run with json)) = is_handed count with
is_read count (Some Judge) = true
is_read count (Some Check) = true
is_read count (Some Live) = true
is_read count _ = false
