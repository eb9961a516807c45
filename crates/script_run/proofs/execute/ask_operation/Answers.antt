use Rattle.std.proofs.Common.{◌+◌, ◌∙◌, ap, sym, drop, Option, Some}
use Rattle.std.proofs.lemmas.Result.{err_from_is_err_and}
use Rattle.boki_types.specs.declared.program.Stmt.{Stmt}
use Rattle.boki_model.specs.Script as script
use Rattle.script_run.specs.Asking.{operation_of}
use Rattle.script_run.specs.Standing.{state_of, stop_point_at, target_of}
use Rattle.script_run.proofs.Asks.{asks_operation, leads_err}
use Rattle.script_run.proofs.execute.ask_operation.Goals as goal

pub returns-in_err-asked-clause-leads : goal.returns-in_err-asked-clause-leads
returns-in_err-asked-clause-leads c = λ lines at is.
    let p = err_from_is_err_and c.from_residual.result c.from_residual.ensures.1 in
    let t = state_of lines c.args.state.now in
    let rest = drop (at + 1) lines in
    let line = c.args.line.now in
    let asks = asks_operation c.args.program.now.functions c.args.depth line rest t c.requires.asks in
    rw (p.1, p.2) (leads_err _ (operation_of c.args.program.now.functions c.args.depth line t.variables t.spawned t.transaction) (script.stop_at (target_of (Some line)) rest t) lines at c.args.ask.now t c.in_err-asked.field-0.0 asks c.in_err-asked.ensures.gives)

pub returns-clause-leads : goal.returns-clause-leads
returns-clause-leads c = λ lines at is.
    let t = state_of lines c.args.state.now in
    let rest = drop (at + 1) lines in
    let line = c.args.line.now in
    let op = c.in_ok-asked.asked in
    asks_operation c.args.program.now.functions c.args.depth line rest t c.requires.asks
    ∙ ap (λ r. script.then_flow r (script.stop_at (target_of (Some line)) rest t)) c.in_ok-asked.ensures.gives
    ∙ ap (λ (o : Option Stmt). script.Stop (script.AtOperation op (target_of o) rest t)) (sym is)
    ∙ ap (λ a. script.Stop (stop_point_at lines a at t)) (sym c.replace.ensures)
