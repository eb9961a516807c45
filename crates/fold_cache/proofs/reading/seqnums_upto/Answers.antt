use Rattle.std.proofs.Common.{leb, rules}
use Rattle.std.proofs.lemmas.List.Sorted.{IsPartitionPoint-from_clause, IsPartitionedBy-leb}
use Rattle.fold_cache.proofs.Found.{first_seqnums, seqnums_ascend}
use Rattle.fold_cache.proofs.reading.seqnums_upto.Goals as goal

pub returns : goal.returns
returns c =
    let ascending = seqnums_ascend c.args.book.now c.args.engine c.args.tag.0 c.seqnums-seqs.result.now c.seqnums-seqs.ensures in
    let parted = IsPartitionedBy-leb (λ y. y) _ c.args.upto ascending in
    let point = IsPartitionPoint-from_clause (λ y. leb y c.args.upto) _ _ c.partition_point-count.ensures.partitioned parted (λ a r q k. search rules) in
    first_seqnums c.args.book.now c.args.engine c.args.tag.0 c.args.upto c.partition_point-count.result c.seqnums-seqs.result.now c.seqnums-seqs.ensures (c.partition_point-count.ensures.bound, point)
