use Rattle.std.proofs.Common.{leb, rules}
use Rattle.std.proofs.lemmas.List.Sorted.{IsPartitionPoint-from_clause}
use Rattle.boki_model.specs.Writes.{Write}
use Rattle.obj_store.proofs.InOrder.{parted_upto, point_upto}
use Rattle.obj_store.proofs.writes.count_upto.Goals as goal

pub returns-clause-count : goal.returns-clause-count
returns-clause-count c = λ up.
    point_upto c.args.last c.args.writes.now c.partition_point.result c.partition_point.ensures.bound
    (IsPartitionPoint-from_clause (λ (w : Write). leb w.first c.args.last) _ _ c.partition_point.ensures.partitioned
    (parted_upto c.args.last c.args.writes.now up) (λ a r q k. search rules))
