use Rattle.boki_types.specs.declared.operation.Ask.TheVariants as k
use Rattle.boki_flow.specs.Arms.{ScriptAsks, asked_missed}
use Rattle.boki_flow.proofs.Leading.{can_miss_if, leads_misses, leads_miss_cut}
use Rattle.boki_flow.proofs.Misses.{misses_operation, misses_done}
use Rattle.boki_flow.proofs.missing.miss_ask.Goals as goal

pub miss_op-requires : goal.miss_op-requires
miss_op-requires c =
    can_miss_if (λ fs. ScriptAsks fs c.args.ask.now) (λ fs. ScriptAsks fs (k.Op c.in-Op.op)) c.args.parts.now c.args.state.now
    (λ fs. (misses_operation c.args.parts.now c.args.state.now c.args.ask.now c.in-Op.op c.in-Op.is fs).needs) c.requires

pub returns-in-Op-clause-ok : goal.returns-in-Op-clause-ok
returns-in-Op-clause-ok c =
    let old = c.args.parts.now in
    leads_misses (λ fs. ScriptAsks fs c.args.ask.now) (λ fs. ScriptAsks fs (k.Op c.in-Op.op)) (asked_missed) (asked_missed) old c.miss_op.new.parts c.args.state.now
    (misses_operation c.args.parts.now c.args.state.now c.args.ask.now c.in-Op.op c.in-Op.is) c.miss_op.result c.miss_op.ensures.ok

pub returns-in-Op-clause-cut : goal.returns-in-Op-clause-cut
returns-in-Op-clause-cut c =
    let old = c.args.parts.now in
    leads_miss_cut (λ fs. ScriptAsks fs c.args.ask.now) (λ fs. ScriptAsks fs (k.Op c.in-Op.op)) (asked_missed) (asked_missed) old c.miss_op.new.parts c.args.state.now
    (misses_operation c.args.parts.now c.args.state.now c.args.ask.now c.in-Op.op c.in-Op.is) c.miss_op.result c.miss_op.ensures.cut

pub returns-in-Done-clause-ok : goal.returns-in-Done-clause-ok
returns-in-Done-clause-ok c = misses_done c.args.parts.now c.args.state.now c.args.ask.now c.in-Done.field-0 c.in-Done.is
