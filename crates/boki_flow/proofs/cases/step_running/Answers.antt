use Rattle.std.proofs.Common.{◌∙◌, sym}
use Rattle.boki_flow.specs.Arms.{Runs, running_move, unended_move}
use Rattle.boki_flow.proofs.Leading.{leads_moves, leads_cut}
use Rattle.boki_flow.proofs.Standing.{has_engine}
use Rattle.boki_flow.proofs.StepCases.{overs, unended}
use Rattle.boki_flow.proofs.cases.step_running.Goals as goal

pub last_finish-requires : goal.last_finish-requires
last_finish-requires c =
    has_engine c.requires.setup c.args.program.now.functions c.requires.store c.requires.attempt c.args.parts.now c.args.state.now c.requires.stands

pub returns-in-Some-clause-ok : goal.returns-in-Some-clause-ok
returns-in-Some-clause-ok c =
    overs c.args.program.now.functions c.args.parts.now c.args.state.now c.in-Some.outcome c.end.new.self (sym c.in-Some.is ∙ c.in_ok-outcome.ensures) c.end.ensures

pub step_unended-requires : goal.step_unended-requires
step_unended-requires c = c.requires

pub returns-in-None-clause-ok : goal.returns-in-None-clause-ok
returns-in-None-clause-ok c =
    let fs = c.args.program.now.functions in
    let old = c.args.parts.now in
    leads_moves Runs Runs fs old c.step_unended.new.parts (running_move fs old) (unended_move fs old) c.args.state.now c.step_unended.new.state
    (unended fs old c.args.state.now (sym c.in-None.is ∙ c.in_ok-outcome.ensures)) c.step_unended.result c.step_unended.ensures.ok

pub returns-in-None-clause-cut : goal.returns-in-None-clause-cut
returns-in-None-clause-cut c =
    let fs = c.args.program.now.functions in
    let old = c.args.parts.now in
    leads_cut Runs Runs fs old c.step_unended.new.parts (running_move fs old) (unended_move fs old) c.args.state.now c.step_unended.new.state
    (unended fs old c.args.state.now (sym c.in-None.is ∙ c.in_ok-outcome.ensures)) c.step_unended.result c.step_unended.ensures.cut
