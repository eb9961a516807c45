use Rattle.std.proofs.Common.{ltb, rules, sym, ap, subst, true, false, ◌≡◌, ◌∙◌, length, arith}
use Rattle.std.specs.List.Sorted.{IsNonDecreasingBy, IsPartitionPoint}
use Rattle.std.proofs.lemmas.List.Sorted.{IsPartitionPoint-from_clause, IsPartitionedBy-ltb}
use Rattle.hm_switch.specs.declared.change.Change.{Change}
use Rattle.hm_switch.specs.Modes.{mode_below}
use Rattle.hm_switch.proofs.ModesGo.{searched, searched_none}
use Rattle.hm_switch.proofs.modes.Modes.at.Goals as goal

pub returns-then-below-eq0 : goal.returns-then-below-eq0
returns-then-below-eq0 c = λ records are.
    let ascend = subst (IsNonDecreasingBy (λ (y : Change). y.seq)) (sym c.deref.ensures.value) are.ascend in
    let parted = IsPartitionedBy-ltb (λ (y : Change). y.seq) _ c.args.seq ascend in
    let point = IsPartitionPoint-from_clause (λ (y : Change). ltb y.seq c.args.seq) _ _ c.partition_point-below.ensures.partitioned parted (λ a r q k. search rules) in
    sym (searched_none c.args.seq c.args.first c.deref.result.now c.partition_point-below.result c.if-below-eq0.true point)
    ∙ ap (mode_below c.args.seq c.args.first) c.deref.ensures.value
    ∙ are.earlier c.args.seq

pub returns : goal.returns
returns c = λ records are.
    let ascend = subst (IsNonDecreasingBy (λ (y : Change). y.seq)) (sym c.deref.ensures.value) are.ascend in
    let parted = IsPartitionedBy-ltb (λ (y : Change). y.seq) _ c.args.seq ascend in
    let point = IsPartitionPoint-from_clause (λ (y : Change). ltb y.seq c.args.seq) _ _ c.partition_point-below.ensures.partitioned parted (λ a r q k. search rules) in
    let here = subst (λ l. IsPartitionPoint (λ (y : Change). ltb y.seq c.args.seq ≡ true) (λ (y : Change). ltb y.seq c.args.seq ≡ false) l c.partition_point-below.result) c.deref.ensures.value point in
    let bound = c.partition_point-below.ensures.bound in
    ap (λ (y : Change). y.mode) c.index.ensures
    ∙ sym (searched c.args.seq c.args.first c.args.self.now.changes.items c.partition_point-below.result c.index.result.now (omega arith) (omega (arith, bound, ap length c.deref.ensures.value)) here)
    ∙ are.earlier c.args.seq
