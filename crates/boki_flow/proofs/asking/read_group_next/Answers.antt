use Rattle.std.proofs.Common.{◌∙◌, false, sym}
use Rattle.boki_types.specs.declared.operation.Ask.TheVariants as k
use Rattle.boki_types.specs.declared.operation.Op.TheVariants as o
use Rattle.boki_flow.specs.Arms.{HasBegun, ScriptAsks, read_group_move, send_move}
use Rattle.boki_flow.proofs.Leading.{can_if, leads_moves, leads_cut}
use Rattle.boki_flow.proofs.Standing.{weaker_ok, on_err, same_cut, has_engine, few, room, frame_asks}
use Rattle.boki_flow.proofs.ScriptCases.{sends_group, free_groups, can_read}
use Rattle.boki_flow.proofs.asking.read_group_next.Goals as goal

pub free_read_group-requires-clause-engine : goal.free_read_group-requires-clause-engine
free_read_group-requires-clause-engine c = let r = c.requires in has_engine r.setup c.args.program.now.functions r.store r.attempt c.args.parts.now c.args.state.now r.stands

pub free_read_group-requires-clause-few : goal.free_read_group-requires-clause-few
free_read_group-requires-clause-few c = let r = c.requires in few r.setup c.args.program.now.functions r.store r.attempt c.args.parts.now c.args.state.now r.stands

pub free_read_group-requires-clause-room : goal.free_read_group-requires-clause-room
free_read_group-requires-clause-room c = let r = c.requires in room r.setup c.args.program.now.functions r.store r.attempt c.args.parts.now c.args.state.now r.stands

pub free_read_group-requires-clause-asks : goal.free_read_group-requires-clause-asks
free_read_group-requires-clause-asks c =
    let r = c.requires in
    frame_asks r.setup c.args.program.now.functions r.store r.attempt c.args.parts.now c.args.state.now r.stands r.holds.script (k.Op (o.ReadGroup c.args.keys)) r.holds.asks

pub free_read_group-requires-clause-reads : goal.free_read_group-requires-clause-reads
free_read_group-requires-clause-reads c =
    let r = c.requires in can_read c.args.program.now.functions c.args.parts.now c.args.state.now r.setup r.store r.attempt r.stands r.holds.script

pub returns-then-reads_freely-clause-ok : goal.returns-then-reads_freely-clause-ok
returns-then-reads_freely-clause-ok c = weaker_ok c.free_read_group.result _ _ c.free_read_group.ensures.ok (λ told did.
    free_groups c.args.program.now.functions c.args.parts.now c.args.state.now c.args.keys c.free_read_group.new.state told (sym c.reads_freely.ensures ∙ c.if-reads_freely.true) did)

pub returns-then-reads_freely-clause-cut : goal.returns-then-reads_freely-clause-cut
returns-then-reads_freely-clause-cut c = on_err c.free_read_group.result
    (same_cut (ScriptAsks c.args.program.now.functions (k.Op (o.ReadGroup c.args.keys))) (read_group_move c.args.parts.now c.args.keys) c.args.program.now.functions c.args.parts.now c.args.state.now)

pub send_next-requires : goal.send_next-requires
send_next-requires c =
    let fs = c.args.program.now.functions in
    can_if (ScriptAsks fs (k.Op (o.ReadGroup c.args.keys))) HasBegun fs c.args.parts.now c.args.state.now (λ setup store a stands p. p.script) c.requires

pub returns-else-reads_freely-clause-ok : goal.returns-else-reads_freely-clause-ok
returns-else-reads_freely-clause-ok c =
    let fs = c.args.program.now.functions in
    let old = c.args.parts.now in
    let kept = c.args.state.now in
    leads_moves (ScriptAsks fs (k.Op (o.ReadGroup c.args.keys))) HasBegun fs old c.send_next.new.parts (read_group_move old c.args.keys) (send_move fs old false kept.frame) kept c.send_next.new.state
    (sends_group fs old kept c.args.keys (sym c.reads_freely.ensures ∙ c.if-reads_freely.false)) c.send_next.result c.send_next.ensures.ok

pub returns-else-reads_freely-clause-cut : goal.returns-else-reads_freely-clause-cut
returns-else-reads_freely-clause-cut c =
    let fs = c.args.program.now.functions in
    let old = c.args.parts.now in
    let kept = c.args.state.now in
    leads_cut (ScriptAsks fs (k.Op (o.ReadGroup c.args.keys))) HasBegun fs old c.send_next.new.parts (read_group_move old c.args.keys) (send_move fs old false kept.frame) kept c.send_next.new.state
    (sends_group fs old kept c.args.keys (sym c.reads_freely.ensures ∙ c.if-reads_freely.false)) c.send_next.result c.send_next.ensures.cut
