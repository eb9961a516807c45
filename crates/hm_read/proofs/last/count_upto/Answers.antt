use Rattle.std.proofs.Common.{leb, rules}
use Rattle.std.proofs.lemmas.List.Sorted.{IsPartitionPoint-from_clause, IsPartitionedBy-leb}
use Rattle.hm_read.proofs.last.count_upto.Goals as goal

pub returns-clause-count : goal.returns-clause-count
returns-clause-count c = λ ascending.
    let parted = IsPartitionedBy-leb (λ y. y) _ c.args.upto.0 ascending in
    (c.partition_point.ensures.bound, IsPartitionPoint-from_clause (λ y. leb y c.args.upto.0) _ _ c.partition_point.ensures.partitioned parted (λ a r q k. search rules))
