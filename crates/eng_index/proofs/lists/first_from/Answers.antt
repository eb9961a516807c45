use Rattle.std.proofs.Common.{ltb, rules, sym, ◌∙◌}
use Rattle.std.proofs.lemmas.List.Sorted.{IsPartitionPoint-from_clause, IsPartitionedBy-ltb}
use Rattle.eng_index.proofs.Searches.{found_from}
use Rattle.eng_index.proofs.lists.first_from.Goals as goal

pub returns : goal.returns
returns c = λ ascending.
    let parted = IsPartitionedBy-ltb (λ y. y) _ c.args.from ascending in
    let point = IsPartitionPoint-from_clause (λ y. ltb y c.args.from) _ _ c.partition_point-place.ensures.partitioned parted (λ a r q k. search rules) in
    c.at_place.ensures ∙ sym (found_from c.args.from c.args.seqs.now c.partition_point-place.result c.partition_point-place.ensures.bound point)
