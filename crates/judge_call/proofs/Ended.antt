-- A call that ends before it has its text ends as is due on the text.
use Rattle.std.proofs.Common.{◌≡◌, ℕ, List, Option, Some, None, Result, Ok, Err, refl, subst}
use Rattle.std.specs.Prelude.{IfSome}
use Rattle.boki_types.specs.declared.turn.TurnText.{TurnText}
use Rattle.line_text.specs.declared.fault.TextFault.{TextFault}
use Rattle.line_text.specs.declared.fault.TextFault.TheVariants as faults
use Rattle.plan_lang.specs.Turns.{turns_of, turns_of_lines}
use Rattle.call_base.specs.declared.status.Status.{Status}
use Rattle.call_base.specs.declared.status.Status.TheVariants.{Done}
use Rattle.call_base.specs.Due.{Due, Meets, due, due_by, within}
use Rattle.call_base.proofs.DueLemmas.{ended_is}
use Rattle.judge_agrees.specs.Judged.{judge_by, judge_turns}
use Rattle.judge_agrees.specs.Judged.{judge_due}

-- by the turns that were read
judged_by : (r : Result TurnText TextFault) → due_by (λ t. due_by (due Done) (judge_turns t)) r ≡ due_by (due Done) (judge_by r)
judged_by (Ok t) = refl
judged_by (Err (faults.Refused n k)) = refl
judged_by (Err faults.Memory) = refl

pub ended_judged : (s : Status) (o old new : Option (List ℕ)) → IfSome o (λ text. (d : List ℕ → Due) → Meets s (within 16777216 d text) old new)
    → IfSome o (λ text. Meets s (judge_due text) old new)
ended_judged s None old new h = tt
ended_judged s (Some text) old new h =
    subst (λ (d : Due). Meets s d old new) (judged_by (turns_of text)) (ended_is 16777216 (λ t. due_by (due Done) (judge_turns t)) turns_of_lines s (Some text) old new h)
