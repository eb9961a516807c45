use Rattle.std.proofs.Common.{leb, arith, rules, sym, ap, ◌∙◌}
use Rattle.std.proofs.lemmas.List.Sorted.{IsPartitionPoint-from_clause, IsPartitionedBy-leb}
use Rattle.eng_index.proofs.Searches.{before, before_is, found_before}
use Rattle.eng_index.proofs.lists.last_upto.Goals as goal

pub returns-then-behind-eq0 : goal.returns-then-behind-eq0
returns-then-behind-eq0 c = λ ascending.
    let parted = IsPartitionedBy-leb (λ y. y) _ c.args.upto ascending in
    let point = IsPartitionPoint-from_clause (λ y. leb y c.args.upto) _ _ c.partition_point-behind.ensures.partitioned parted (λ a r q k. search rules) in
    sym (ap (λ n. before n c.args.seqs.now) c.if-behind-eq0.true)
    ∙ sym (found_before c.args.upto c.args.seqs.now c.partition_point-behind.result c.partition_point-behind.ensures.bound point)

pub returns : goal.returns
returns c = λ ascending.
    let parted = IsPartitionedBy-leb (λ y. y) _ c.args.upto ascending in
    let point = IsPartitionPoint-from_clause (λ y. leb y c.args.upto) _ _ c.partition_point-behind.ensures.partitioned parted (λ a r q k. search rules) in
    c.at_place.ensures
    ∙ sym (before_is c.partition_point-behind.result c.args.seqs.now (omega arith))
    ∙ sym (found_before c.args.upto c.args.seqs.now c.partition_point-behind.result c.partition_point-behind.ensures.bound point)
