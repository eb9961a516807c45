use Rattle.std.specs.Prelude.{zip}
use Rattle.boki_types.specs.declared.line.StepLine.TheVariants as line
use Rattle.boki_types.specs.declared.operation.Answer.TheVariants as ans
use Rattle.boki_types.specs.declared.operation.Op.TheVariants as o
use Rattle.boki_model.specs.Writes.{read_fenced}
use Rattle.boki_machine.specs.Step.{read_all, seqnum}
use Rattle.step_log.specs.Sound.{view}
use Rattle.boki_flow.proofs.Standing.{has_engine, few, room}
use Rattle.boki_flow.proofs.Marked.{marker_asks, marker_reads, marker_moves, marker_cut}
use Rattle.boki_flow.proofs.adopting.adopt_markers.Goals as goal

pub adopt_group-requires-clause-engine : goal.adopt_group-requires-clause-engine
adopt_group-requires-clause-engine c =
    let r = c.requires in has_engine r.setup c.args.program.now.functions r.store r.attempt c.args.parts.now c.args.state.now r.stands

pub adopt_group-requires-clause-few : goal.adopt_group-requires-clause-few
adopt_group-requires-clause-few c =
    let r = c.requires in few r.setup c.args.program.now.functions r.store r.attempt c.args.parts.now c.args.state.now r.stands

pub adopt_group-requires-clause-room : goal.adopt_group-requires-clause-room
adopt_group-requires-clause-room c =
    let r = c.requires in room r.setup c.args.program.now.functions r.store r.attempt c.args.parts.now c.args.state.now r.stands

pub adopt_group-requires-clause-asks : goal.adopt_group-requires-clause-asks
adopt_group-requires-clause-asks c =
    marker_asks c.args.program.now.functions c.args.parts.now c.args.state.now c.args.seq.0 (o.ReadGroup c.args.keys.now) c.requires

pub adopt_group-requires-clause-reads : goal.adopt_group-requires-clause-reads
adopt_group-requires-clause-reads c =
    marker_reads c.args.program.now.functions c.args.parts.now c.args.state.now c.args.seq.0 (o.ReadGroup c.args.keys.now) c.requires

pub returns-clause-ok : goal.returns-clause-ok
returns-clause-ok c =
    marker_moves c.args.program.now.functions c.args.parts.now c.args.state.now c.adopt_group.new.state c.adopt_group.new.store c.args.seq.0 (o.ReadGroup c.args.keys.now) c.args.keys.now
    (λ store a. ans.Values (read_all (λ key. read_fenced key c.args.seq.0 store (view c.args.parts.now.book a.engine)) c.args.keys.now))
    (λ store a. line.AdoptReadAll (seqnum c.args.seq.0) (zip c.args.keys.now (read_all (λ key. read_fenced key c.args.seq.0 store (view c.args.parts.now.book a.engine)) c.args.keys.now)))
    c.adopt_group.result c.adopt_group.ensures.ok

pub returns-clause-cut : goal.returns-clause-cut
returns-clause-cut c =
    marker_cut c.args.program.now.functions c.args.parts.now c.args.state.now c.adopt_group.new.state c.adopt_group.new.store c.args.seq.0 (o.ReadGroup c.args.keys.now) c.args.keys.now
    (λ store a. ans.Values (read_all (λ key. read_fenced key c.args.seq.0 store (view c.args.parts.now.book a.engine)) c.args.keys.now))
    (λ store a. line.AdoptReadAll (seqnum c.args.seq.0) (zip c.args.keys.now (read_all (λ key. read_fenced key c.args.seq.0 store (view c.args.parts.now.book a.engine)) c.args.keys.now)))
    c.adopt_group.result c.adopt_group.ensures.cut
