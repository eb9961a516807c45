use Rattle.std.proofs.Common.{◌∙◌, ℕ, List, false, sym, ap}
use Rattle.boki_types.specs.declared.operation.Ask.TheVariants as k
use Rattle.boki_types.specs.declared.operation.Op.TheVariants as o
use Rattle.boki_model.specs.Bodies.{step_tag}
use Rattle.machine_laws.specs.Ends.{finish_in, last_tagged}
use Rattle.step_log.specs.Sound.{view}
use Rattle.boki_flow.specs.Arms.{HasBegun, ScriptAsks, join_move, send_move}
use Rattle.boki_flow.proofs.Leading.{leads_moves, leads_cut}
use Rattle.boki_flow.proofs.SentAsks.{has_path}
use Rattle.boki_flow.proofs.SentJoins.{leads_join}
use Rattle.boki_flow.proofs.asking.step_join.Goals as goal

pub child-path-requires : goal.child-path-requires
child-path-requires c =
    let r = c.requires in
    has_path r.setup c.args.program.now.functions r.store r.attempt c.args.parts.now c.args.state.now r.stands (k.Op (o.Join c.args.ordinal)) r.holds.asks

pub returns-in-Some-clause-ok : goal.returns-in-Some-clause-ok
returns-in-Some-clause-ok c =
    let fs = c.args.program.now.functions in
    let old = c.args.parts.now in
    let kept = c.args.state.now in
    leads_moves (ScriptAsks fs (k.Op (o.Join c.args.ordinal))) HasBegun fs old c.send_next.new.parts (join_move old c.args.ordinal) (send_move fs old false kept.frame) kept c.send_next.new.state
    (leads_join fs old kept c.args.ordinal c.in-Some.outcome (sym c.in-Some.is ∙ c.in_ok-outcome.ensures
    ∙ ap (λ (path : List ℕ). finish_in path (last_tagged (step_tag path) (view old.book kept.progress.engine))) c.child-path.ensures)) c.send_next.result c.send_next.ensures.ok

pub returns-in-Some-clause-cut : goal.returns-in-Some-clause-cut
returns-in-Some-clause-cut c =
    let fs = c.args.program.now.functions in
    let old = c.args.parts.now in
    let kept = c.args.state.now in
    leads_cut (ScriptAsks fs (k.Op (o.Join c.args.ordinal))) HasBegun fs old c.send_next.new.parts (join_move old c.args.ordinal) (send_move fs old false kept.frame) kept c.send_next.new.state
    (leads_join fs old kept c.args.ordinal c.in-Some.outcome (sym c.in-Some.is ∙ c.in_ok-outcome.ensures
    ∙ ap (λ (path : List ℕ). finish_in path (last_tagged (step_tag path) (view old.book kept.progress.engine))) c.child-path.ensures)) c.send_next.result c.send_next.ensures.cut
