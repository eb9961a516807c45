use Rattle.std.proofs.Common.{sym, take, ◌∙◌, arith}
use Rattle.boki_model.specs.Live.{has_tag}
use Rattle.eng_index.proofs.Tags.{has_tag_more}
use Rattle.eng_index.proofs.Ready.{room_for}
use Rattle.eng_index.proofs.lists.reserve.Goals as goal

pub loop-tag-preserved : goal.loop-tag-preserved
loop-tag-preserved c =
    let e = c.in_ok-reserve_one.ensures in (
      (λ t. e.same t ∙ c.loop-tag.invariant.0 t),
      (λ t has.
          let is = sym (has_tag_more t c.args.tags.now c.loop-tag.tag-index _ (omega arith)) ∙ has in
          room_for t (has_tag t (take c.loop-tag.tag-index c.args.tags.now)) _ c.reserve_one.new.lists is (λ h. e.others t (c.loop-tag.invariant.1 t h)) e.room),
    )
