use Rattle.std.proofs.Common.{[], ◌∷◌}
use Rattle.boki_types.specs.declared.line.StepLine.TheVariants as line
use Rattle.boki_types.specs.declared.operation.Answer.TheVariants as ans
use Rattle.boki_types.specs.declared.operation.Op.TheVariants as o
use Rattle.boki_model.specs.Writes.{read_fenced}
use Rattle.boki_machine.specs.Step.{fenced_value, seqnum}
use Rattle.step_log.specs.Sound.{view}
use Rattle.boki_flow.proofs.Standing.{has_engine, few, room}
use Rattle.boki_flow.proofs.Marked.{marker_asks, marker_moves, marker_cut}
use Rattle.boki_flow.proofs.adopting.adopt_marker.Goals as goal

pub adopt_read-requires-clause-engine : goal.adopt_read-requires-clause-engine
adopt_read-requires-clause-engine c =
    let r = c.requires in has_engine r.setup c.args.program.now.functions r.store r.attempt c.args.parts.now c.args.state.now r.stands

pub adopt_read-requires-clause-few : goal.adopt_read-requires-clause-few
adopt_read-requires-clause-few c =
    let r = c.requires in few r.setup c.args.program.now.functions r.store r.attempt c.args.parts.now c.args.state.now r.stands

pub adopt_read-requires-clause-room : goal.adopt_read-requires-clause-room
adopt_read-requires-clause-room c =
    let r = c.requires in room r.setup c.args.program.now.functions r.store r.attempt c.args.parts.now c.args.state.now r.stands

pub adopt_read-requires-clause-asks : goal.adopt_read-requires-clause-asks
adopt_read-requires-clause-asks c =
    marker_asks c.args.program.now.functions c.args.parts.now c.args.state.now c.args.seq.0 (o.Read c.args.key.now) c.requires

pub returns-clause-ok : goal.returns-clause-ok
returns-clause-ok c =
    marker_moves c.args.program.now.functions c.args.parts.now c.args.state.now c.adopt_read.new.state c.adopt_read.new.store c.args.seq.0 (o.Read c.args.key.now) (c.args.key.now ∷ [])
    (λ store a. ans.Value (fenced_value (read_fenced c.args.key.now c.args.seq.0 store (view c.args.parts.now.book a.engine))))
    (λ store a. line.AdoptRead (seqnum c.args.seq.0) c.args.key.now (fenced_value (read_fenced c.args.key.now c.args.seq.0 store (view c.args.parts.now.book a.engine))))
    c.adopt_read.result c.adopt_read.ensures.ok

pub returns-clause-cut : goal.returns-clause-cut
returns-clause-cut c =
    marker_cut c.args.program.now.functions c.args.parts.now c.args.state.now c.adopt_read.new.state c.adopt_read.new.store c.args.seq.0 (o.Read c.args.key.now) (c.args.key.now ∷ [])
    (λ store a. ans.Value (fenced_value (read_fenced c.args.key.now c.args.seq.0 store (view c.args.parts.now.book a.engine))))
    (λ store a. line.AdoptRead (seqnum c.args.seq.0) c.args.key.now (fenced_value (read_fenced c.args.key.now c.args.seq.0 store (view c.args.parts.now.book a.engine))))
    c.adopt_read.result c.adopt_read.ensures.cut
