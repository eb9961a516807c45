use Rattle.std.proofs.Common.{◌∙◌, sym, ap, cond, take, arith}
use Rattle.boki_model.specs.Live.{has_tag}
use Rattle.eng_index.specs.Lists.{seqs, with_last}
use Rattle.eng_index.proofs.Tags.{has_tag_more, has_tag_at}
use Rattle.eng_index.proofs.Ready.{added_again}
use Rattle.eng_index.proofs.lists.push.Goals as goal

pub push_one-requires : goal.push_one-requires
push_one-requires c = c.loop-tag.invariant.1 _ (has_tag_at c.args.tags.now c.loop-tag.tag-index _ (omega arith))

pub loop-tag-preserved : goal.loop-tag-preserved
loop-tag-preserved c = (
  (λ t.
      added_again c.args.seq (seqs t c.args.lists.now) (seqs t c.loop-tag.lists) (seqs t c.push_one.new.lists) (has_tag t (take c.loop-tag.tag-index c.args.tags.now)) _ (c.loop-tag.invariant.0 t) (c.push_one.ensures.seqs t)
      ∙ ap (λ b. cond b (with_last c.args.seq (seqs t c.args.lists.now)) (seqs t c.args.lists.now)) (sym (has_tag_more t c.args.tags.now c.loop-tag.tag-index _ (omega arith)))),
  (λ t has. c.push_one.ensures.ready t (c.loop-tag.invariant.1 t has)),
)
