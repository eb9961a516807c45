use Rattle.std.proofs.Common.{◌≡◌, ◌∙◌, ◌||◌}
use Rattle.boki_types.specs.declared.operation.Ask.TheVariants as k
use Rattle.boki_types.specs.declared.operation.Op.TheVariants as o
use Rattle.boki_flow.specs.Arms.{HasBegun, ScriptAsks, logged_move, send_move}
use Rattle.boki_flow.proofs.Leading.{can_if, leads_moves, leads_cut}
use Rattle.boki_flow.proofs.Standing.{weaker_ok, weaker_err}
use Rattle.boki_flow.proofs.ScriptCases.{by_first, by_second, sends_write, stores, unchanged_cut}
use Rattle.boki_flow.proofs.asking.log_write.Goals.{then-inline, else-inline}
use Rattle.boki_flow.proofs.asking.log_write.Goals as goal

pub send_next-requires : goal.send_next-requires
send_next-requires c =
    let fs = c.args.program.now.functions in
    can_if (ScriptAsks fs (k.Op (o.Write c.args.key c.args.value))) HasBegun fs c.args.parts.now c.args.state.now (λ setup store a stands p. p.script) c.requires

pub returns-then-state-clause-ok : goal.returns-then-state-clause-ok
returns-then-state-clause-ok c =
    let fs = c.args.program.now.functions in
    let old = c.args.parts.now in
    let kept = c.args.state.now in
    let inline = c.is_inline-inline.result in
    let sent : (inline || kept.progress.stored) ≡ c.if-inline.value = (elim c.if-inline.branch [ then-inline w ↦ by_first _ _ _ w.if-inline.true w.value-is | else-inline w ↦ by_second _ _ _ w.if-inline.false w.value-is ]) in
    leads_moves (ScriptAsks fs (k.Op (o.Write c.args.key c.args.value))) HasBegun fs old c.send_next.new.parts (logged_move old c.args.key c.args.value) (send_move fs old inline kept.frame) kept c.send_next.new.state
    (sends_write fs old kept c.args.key c.args.value inline c.is_inline-inline.ensures (sent ∙ c.if-state.true)) c.send_next.result c.send_next.ensures.ok

pub returns-then-state-clause-cut : goal.returns-then-state-clause-cut
returns-then-state-clause-cut c =
    let fs = c.args.program.now.functions in
    let old = c.args.parts.now in
    let kept = c.args.state.now in
    let inline = c.is_inline-inline.result in
    let sent : (inline || kept.progress.stored) ≡ c.if-inline.value = (elim c.if-inline.branch [ then-inline w ↦ by_first _ _ _ w.if-inline.true w.value-is | else-inline w ↦ by_second _ _ _ w.if-inline.false w.value-is ]) in
    leads_cut (ScriptAsks fs (k.Op (o.Write c.args.key c.args.value))) HasBegun fs old c.send_next.new.parts (logged_move old c.args.key c.args.value) (send_move fs old inline kept.frame) kept c.send_next.new.state
    (sends_write fs old kept c.args.key c.args.value inline c.is_inline-inline.ensures (sent ∙ c.if-state.true)) c.send_next.result c.send_next.ensures.cut

pub returns-else-state-clause-ok : goal.returns-else-state-clause-ok
returns-else-state-clause-ok c =
    let kept = c.args.state.now in
    let inline = c.is_inline-inline.result in
    let sent : (inline || kept.progress.stored) ≡ c.if-inline.value = (elim c.if-inline.branch [ then-inline w ↦ by_first _ _ _ w.if-inline.true w.value-is | else-inline w ↦ by_second _ _ _ w.if-inline.false w.value-is ]) in
    weaker_ok c.store_value.result _ _ c.store_value.ensures.ok (λ told did.
    stores c.args.program.now.functions c.args.parts.now kept c.args.key c.args.value inline c.is_inline-inline.ensures c.store_value.new.store c.store_value.new.state told (sent ∙ c.if-state.false) did)

pub returns-else-state-clause-cut : goal.returns-else-state-clause-cut
returns-else-state-clause-cut c =
    let fs = c.args.program.now.functions in
    weaker_err c.store_value.result c.store_value.ensures.cut (λ same.
    unchanged_cut (ScriptAsks fs (k.Op (o.Write c.args.key c.args.value))) (logged_move c.args.parts.now c.args.key c.args.value) fs c.args.parts.now c.args.state.now c.store_value.new.store same)
