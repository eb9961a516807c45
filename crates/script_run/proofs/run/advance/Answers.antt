use Rattle.std.proofs.Common.{◌≡◌, ◌<◌, ◌+◌, ◌∙◌, ap, sym, drop, slice_get, Some, arith}
use Rattle.boki_types.specs.declared.program.Stmt.{Stmt}
use Rattle.boki_model.specs.Script as script
use Rattle.script_run.specs.Flows.{flow_of}
use Rattle.script_run.specs.Standing.{state_of, stop_point_at}
use Rattle.script_run.proofs.Goes.{goes_next, goes_skip, goes_enter, goes_stop, enters_body, enters_none}
use Rattle.script_run.proofs.run.advance.Goals as goal

pub returns-in-Next-clause-goes : goal.returns-in-Next-clause-goes
returns-in-Next-clause-goes c =
    let fs = c.args.program.now.functions in
    let depth = c.args.depth in
    let lines = c.args.lines.now in
    let counter = c.args.counter.now in
    let t = state_of lines c.args.state.now in
    let u = state_of lines c.step.new.state in
    let enter = script.enter_body fs depth counter.left in
    let flow = λ (line : Stmt) (is : slice_get lines counter.at ≡ Some line). c.in_ok-step.ensures.leads line is ∙ ap (flow_of lines counter.at c.step.new.ask u) c.in-Next.is in
    goes_next fs depth enter lines counter.at c.requires.within t u flow

pub returns-in_ok-counter-in-Skip-clause-goes : goal.returns-in_ok-counter-in-Skip-clause-goes
returns-in_ok-counter-in-Skip-clause-goes c =
    let fs = c.args.program.now.functions in
    let depth = c.args.depth in
    let lines = c.args.lines.now in
    let counter = c.args.counter.now in
    let t = state_of lines c.args.state.now in
    let u = state_of lines c.step.new.state in
    let enter = script.enter_body fs depth counter.left in
    let flow = λ (line : Stmt) (is : slice_get lines counter.at ≡ Some line). c.in_ok-step.ensures.leads line is ∙ ap (flow_of lines counter.at c.step.new.ask u) c.in-Skip.is in
    goes_skip fs depth enter lines counter.at c.requires.within t u flow ∙ c.in_ok-counter-in-Skip.ensures.goes fs depth enter

pub returns-then-counter-eq0-clause-goes : goal.returns-then-counter-eq0-clause-goes
returns-then-counter-eq0-clause-goes c =
    let fs = c.args.program.now.functions in
    let depth = c.args.depth in
    let lines = c.args.lines.now in
    let counter = c.args.counter.now in
    let t = state_of lines c.args.state.now in
    let u = state_of lines c.step.new.state in
    let enter = script.enter_body fs depth counter.left in
    let flow = λ (line : Stmt) (is : slice_get lines counter.at ≡ Some line). c.in_ok-step.ensures.leads line is ∙ ap (flow_of lines counter.at c.step.new.ask u) c.in-Enter.is in
    let body = drop (c.in-Enter.at + 1) lines in
    goes_enter fs depth enter lines counter.at c.requires.within t body u flow
    ∙ enters_none fs depth counter.left body u c.if-counter-eq0.true
    ∙ ap (λ a. stop_point_at lines a counter.at u) (sym c.replace.ensures)

pub returns-else-counter-eq0-clause-goes : goal.returns-else-counter-eq0-clause-goes
returns-else-counter-eq0-clause-goes c =
    let fs = c.args.program.now.functions in
    let depth = c.args.depth in
    let lines = c.args.lines.now in
    let counter = c.args.counter.now in
    let t = state_of lines c.args.state.now in
    let u = state_of lines c.step.new.state in
    let enter = script.enter_body fs depth counter.left in
    let flow = λ (line : Stmt) (is : slice_get lines counter.at ≡ Some line). c.in_ok-step.ensures.leads line is ∙ ap (flow_of lines counter.at c.step.new.ask u) c.in-Enter.is in
    let body = drop (c.in-Enter.at + 1) lines in
    let some : 0 < counter.left = omega arith in
    goes_enter fs depth enter lines counter.at c.requires.within t body u flow ∙ enters_body fs depth counter.left body u some

pub returns-in-Stop-clause-goes : goal.returns-in-Stop-clause-goes
returns-in-Stop-clause-goes c =
    let fs = c.args.program.now.functions in
    let depth = c.args.depth in
    let lines = c.args.lines.now in
    let counter = c.args.counter.now in
    let t = state_of lines c.args.state.now in
    let u = state_of lines c.step.new.state in
    let enter = script.enter_body fs depth counter.left in
    let flow = λ (line : Stmt) (is : slice_get lines counter.at ≡ Some line). c.in_ok-step.ensures.leads line is ∙ ap (flow_of lines counter.at c.step.new.ask u) c.in-Stop.is in
    goes_stop fs depth enter lines counter.at c.requires.within t (stop_point_at lines c.step.new.ask counter.at u) flow
