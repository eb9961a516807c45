use Rattle.std.proofs.Common.{◌∙◌, ◌==◌, ℕ, Some, None, sym, ap}
use Rattle.boki_flow.proofs.StepCases.{unanswered, answered}
use Rattle.boki_flow.proofs.cases.is_answered.Goals as goal

pub returns-then-not-asks_operation : goal.returns-then-not-asks_operation
returns-then-not-asks_operation c = λ fs setup store a stands script.
    unanswered setup fs store a c.args.parts.now c.args.state.now stands script (sym c.asks_operation.ensures ∙ c.if-not-asks_operation.true)

pub returns-in-Some : goal.returns-in-Some
returns-in-Some c = λ fs setup store a stands script.
    ap (λ (n : ℕ). n == c.in-Some.index) c.index.ensures
    ∙ answered setup fs store a c.args.parts.now c.args.state.now stands script (Some (c.in-Some.field-0-0, c.in-Some.index))
    (sym c.asks_operation.ensures ∙ c.if-not-asks_operation.false) (sym c.in-Some.is ∙ c.step_at.ensures)

pub returns-in-None : goal.returns-in-None
returns-in-None c = λ fs setup store a stands script.
    answered setup fs store a c.args.parts.now c.args.state.now stands script None
    (sym c.asks_operation.ensures ∙ c.if-not-asks_operation.false) (sym c.in-None.is ∙ c.step_at.ensures)
