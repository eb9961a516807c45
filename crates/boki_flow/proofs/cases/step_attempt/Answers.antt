use Rattle.std.proofs.Common.{◌∙◌, sym}
use Rattle.boki_flow.specs.Arms.{Always, Runs, step_move, running_move}
use Rattle.boki_flow.proofs.Leading.{can_if, leads_moves, leads_cut}
use Rattle.boki_flow.proofs.StepCases.{idles, run}
use Rattle.boki_flow.proofs.cases.step_attempt.Goals as goal

pub step_running-requires : goal.step_running-requires
step_running-requires c =
    let leads = run c.args.program.now.functions c.args.parts.now c.args.state.now (sym c.is_running.ensures ∙ c.if-is_running.true) in
    can_if Always Runs c.args.program.now.functions c.args.parts.now c.args.state.now leads.needs c.requires

pub returns-then-is_running-clause-ok : goal.returns-then-is_running-clause-ok
returns-then-is_running-clause-ok c =
    let fs = c.args.program.now.functions in
    let old = c.args.parts.now in
    leads_moves Always Runs fs old c.step_running.new.parts (step_move fs old) (running_move fs old) c.args.state.now c.step_running.new.state
    (run fs old c.args.state.now (sym c.is_running.ensures ∙ c.if-is_running.true)) c.step_running.result c.step_running.ensures.ok

pub returns-then-is_running-clause-cut : goal.returns-then-is_running-clause-cut
returns-then-is_running-clause-cut c =
    let fs = c.args.program.now.functions in
    let old = c.args.parts.now in
    leads_cut Always Runs fs old c.step_running.new.parts (step_move fs old) (running_move fs old) c.args.state.now c.step_running.new.state
    (run fs old c.args.state.now (sym c.is_running.ensures ∙ c.if-is_running.true)) c.step_running.result c.step_running.ensures.cut

pub returns-else-is_running-clause-ok : goal.returns-else-is_running-clause-ok
returns-else-is_running-clause-ok c =
    idles c.args.program.now.functions c.args.parts.now c.args.state.now (sym c.is_running.ensures ∙ c.if-is_running.false)
