use Rattle.std.proofs.Common.{◌≡◌, ◌∙◌, option_map, reverse, IfOk, ap, subst}
use Rattle.lb_base.specs.declared.value.Tag.{Tag}
use Rattle.boki_model.specs.Reads.{tagged_seqnums}
use Rattle.book_api.specs.Books.{seen}
use Rattle.hm_read.specs.LastWrites.{write_parts}
use Rattle.hm_read.proofs.Walks.{seqs_ascend, found_last}
use Rattle.hm_read.proofs.last.last_write.Goals as goal

pub returns : goal.returns
returns c = λ sound.
    let book = c.args.book.now in
    let seqs = c.seqnums-seqs.result.now in
    let are = c.seqnums-seqs.ensures ∙ ap (λ (t : Tag). reverse (tagged_seqnums t.0 (seen book c.args.engine))) c.key_tag.ensures in
    let counted = c.count_upto-count.ensures.count (seqs_ascend book c.args.engine _ seqs are) in
    subst (λ x. IfOk c.last_of.result (λ w. option_map write_parts w ≡ x)) (found_last book c.args.key.now c.args.engine c.args.upto.0 c.count_upto-count.result seqs sound are counted) c.last_of.ensures
