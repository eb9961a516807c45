use Rattle.boki_types.specs.declared.operation.Ask.TheVariants as k
use Rattle.boki_types.specs.declared.operation.Op.TheVariants as o
use Rattle.boki_machine.specs.Step.{misses_write}
use Rattle.boki_flow.specs.Arms.{ScriptAsks, asked_missed}
use Rattle.boki_flow.proofs.Leading.{can_miss_if, leads_misses, leads_miss_cut}
use Rattle.boki_flow.proofs.Misses.{misses_writes, misses_others}
use Rattle.boki_flow.proofs.missing.miss_op.Goals as goal

pub miss_write-requires : goal.miss_write-requires
miss_write-requires c =
    can_miss_if (λ fs. ScriptAsks fs (k.Op c.args.op.now)) (λ fs. ScriptAsks fs (k.Op (o.Write c.in-Write.key c.in-Write.value))) c.args.parts.now c.args.state.now
    (λ fs. (misses_writes c.args.parts.now c.args.state.now c.args.op.now c.in-Write.key c.in-Write.value c.in-Write.is fs).needs) c.requires

pub returns-in-Write-clause-ok : goal.returns-in-Write-clause-ok
returns-in-Write-clause-ok c =
    let old = c.args.parts.now in
    leads_misses (λ fs. ScriptAsks fs (k.Op c.args.op.now)) (λ fs. ScriptAsks fs (k.Op (o.Write c.in-Write.key c.in-Write.value))) (asked_missed) (λ fs setup store a. misses_write setup a store c.in-Write.key c.in-Write.value a.mode a.late) old c.miss_write.new.parts c.args.state.now
    (misses_writes c.args.parts.now c.args.state.now c.args.op.now c.in-Write.key c.in-Write.value c.in-Write.is) c.miss_write.result c.miss_write.ensures.ok

pub returns-in-Write-clause-cut : goal.returns-in-Write-clause-cut
returns-in-Write-clause-cut c =
    let old = c.args.parts.now in
    leads_miss_cut (λ fs. ScriptAsks fs (k.Op c.args.op.now)) (λ fs. ScriptAsks fs (k.Op (o.Write c.in-Write.key c.in-Write.value))) (asked_missed) (λ fs setup store a. misses_write setup a store c.in-Write.key c.in-Write.value a.mode a.late) old c.miss_write.new.parts c.args.state.now
    (misses_writes c.args.parts.now c.args.state.now c.args.op.now c.in-Write.key c.in-Write.value c.in-Write.is) c.miss_write.result c.miss_write.ensures.cut

pub returns-in_default-clause-ok : goal.returns-in_default-clause-ok
returns-in_default-clause-ok c = misses_others c.args.parts.now c.args.state.now c.args.op.now c.in_default.not-Write
