-- What an attempt takes as it adopts: what its calls need, and the results of taking.
use Rattle.std.proofs.Common.{◌≡◌, ◌∙◌, List, Result, Ok, Err, IfOk, ap}
use Rattle.boki_types.specs.declared.body.Body.{Body}
use Rattle.boki_types.specs.declared.line.StepLine.{StepLine}
use Rattle.boki_types.specs.declared.operation.Answer.{Answer}
use Rattle.boki_types.specs.declared.plan.Setup.{Setup}
use Rattle.boki_types.specs.declared.program.Function.{Function}
use Rattle.boki_model.specs.Live.{Live}
use Rattle.boki_model.specs.Writes.{Store}
use Rattle.boki_machine.specs.Attempt.{Attempt, Move, adopts}
use Rattle.book_api.specs.Books.{BookState}
use Rattle.step_log.specs.Sound.{view}
use Rattle.attempt_state.specs.declared.progress.Progress.{Progress}
use Rattle.attempt_state.specs.declared.state.AttemptState.{AttemptState}
use Rattle.attempt_state.specs.Progresses.{progress_of}
use Rattle.flow_parts.specs.declared.parts.Parts.{Parts}
use Rattle.boki_flow.specs.Arms.{MovesBy}
use Rattle.boki_flow.proofs.Adopted.{AnswerTaken}

-- what its engine sees, by the changed state
pub seen_so : (book : BookState) (changed : Progress) (a : Attempt) → changed ≡ progress_of (adopts a changed.cursor.0)
    → {X : Type 0} (f : List (Live Body) → X) (x : X) → f (view book a.engine) ≡ x → f (view book changed.engine) ≡ x
seen_so book changed a is f x e = ap (λ (p : Progress). f (view book p.engine)) is ∙ e

-- the answer was taken, and its line is told
pub taken_ok : (P : Setup → Store → Attempt → Type 0) (move : Setup → Store → Attempt → Move) (fs : List Function) (parts new : Parts) (kept after : AttemptState)
    (at : Progress) (answer : Answer) (l : StepLine) {E : Type 0} (result : Result StepLine E)
    → IfOk result (λ told. told ≡ l) → IfOk result (λ told. AnswerTaken fs at answer kept after)
    → ((told : StepLine) → told ≡ l → AnswerTaken fs at answer kept after → MovesBy P move fs parts new kept after told)
    → IfOk result (MovesBy P move fs parts new kept after)
taken_ok P move fs parts new kept after at answer l (Ok told) said taken by = by told said taken
taken_ok P move fs parts new kept after at answer l (Err e) said taken by = tt
