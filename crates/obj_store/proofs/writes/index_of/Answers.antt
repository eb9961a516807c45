use Rattle.std.proofs.Common.{rules}
use Rattle.std.proofs.lemmas.List.Sorted.{IsPartitionPoint-from_clause}
use Rattle.boki_model.specs.Writes.{is_below}
use Rattle.obj_store.proofs.InOrder.{parted, point_is}
use Rattle.obj_store.proofs.writes.index_of.Goals as goal

pub returns-clause-index : goal.returns-clause-index
returns-clause-index c = λ up.
    point_is c.args.first c.args.second c.args.writes.now c.partition_point.result c.partition_point.ensures.bound
    (IsPartitionPoint-from_clause (λ w. is_below w.first w.second c.args.first c.args.second) _ _ c.partition_point.ensures.partitioned
    (parted c.args.first c.args.second c.args.writes.now up) (λ a r q k. search rules))
