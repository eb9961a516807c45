use Rattle.std.proofs.Common.{◌∙◌, sym}
use Rattle.boki_types.specs.declared.operation.Ask.TheVariants as k
use Rattle.boki_types.specs.declared.operation.Op.TheVariants as o
use Rattle.boki_flow.specs.Arms.{ScriptAsks, write_move, logged_move}
use Rattle.boki_flow.proofs.Leading.{leads_moves, leads_cut}
use Rattle.boki_flow.proofs.Standing.{weaker_ok, weaker_err, few, room, frame_asks}
use Rattle.boki_flow.proofs.ScriptCases.{logs, free_writes, free_cut}
use Rattle.boki_flow.proofs.asking.write_next.Goals as goal

pub free_write-requires-clause-few : goal.free_write-requires-clause-few
free_write-requires-clause-few c = let r = c.requires in few r.setup c.args.program.now.functions r.store r.attempt c.args.parts.now c.args.state.now r.stands

pub free_write-requires-clause-room : goal.free_write-requires-clause-room
free_write-requires-clause-room c = let r = c.requires in room r.setup c.args.program.now.functions r.store r.attempt c.args.parts.now c.args.state.now r.stands

pub free_write-requires-clause-asks : goal.free_write-requires-clause-asks
free_write-requires-clause-asks c =
    let r = c.requires in
    frame_asks r.setup c.args.program.now.functions r.store r.attempt c.args.parts.now c.args.state.now r.stands r.holds.script (k.Op (o.Write c.args.key c.args.value)) r.holds.asks

pub returns-then-writes_freely-clause-ok : goal.returns-then-writes_freely-clause-ok
returns-then-writes_freely-clause-ok c = weaker_ok c.free_write.result _ _ c.free_write.ensures.ok (λ told did.
    free_writes c.args.program.now.functions c.args.parts.now c.args.state.now c.args.key c.args.value (sym c.writes_freely.ensures ∙ c.if-writes_freely.true) c.free_write.new.store c.free_write.new.state told did)

pub returns-then-writes_freely-clause-cut : goal.returns-then-writes_freely-clause-cut
returns-then-writes_freely-clause-cut c = weaker_err c.free_write.result c.free_write.ensures.cut (λ did.
    free_cut c.args.program.now.functions c.args.parts.now c.args.state.now c.args.key c.args.value (sym c.writes_freely.ensures ∙ c.if-writes_freely.true) c.free_write.new.store did)

pub log_write-requires : goal.log_write-requires
log_write-requires c = c.requires

pub returns-else-writes_freely-clause-ok : goal.returns-else-writes_freely-clause-ok
returns-else-writes_freely-clause-ok c =
    let fs = c.args.program.now.functions in
    let old = c.args.parts.now in
    let kept = c.args.state.now in
    let asks = ScriptAsks fs (k.Op (o.Write c.args.key c.args.value)) in
    leads_moves asks asks fs old c.log_write.new.parts (write_move old c.args.key c.args.value) (logged_move old c.args.key c.args.value) kept c.log_write.new.state
    (logs fs old kept c.args.key c.args.value (sym c.writes_freely.ensures ∙ c.if-writes_freely.false)) c.log_write.result c.log_write.ensures.ok

pub returns-else-writes_freely-clause-cut : goal.returns-else-writes_freely-clause-cut
returns-else-writes_freely-clause-cut c =
    let fs = c.args.program.now.functions in
    let old = c.args.parts.now in
    let kept = c.args.state.now in
    let asks = ScriptAsks fs (k.Op (o.Write c.args.key c.args.value)) in
    leads_cut asks asks fs old c.log_write.new.parts (write_move old c.args.key c.args.value) (logged_move old c.args.key c.args.value) kept c.log_write.new.state
    (logs fs old kept c.args.key c.args.value (sym c.writes_freely.ensures ∙ c.if-writes_freely.false)) c.log_write.result c.log_write.ensures.cut
