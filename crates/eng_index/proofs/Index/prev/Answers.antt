use Rattle.std.proofs.Common.{sym, ap, ◌∙◌}
use Rattle.eng_index.specs.IndexState.{seqnums_of}
use Rattle.eng_index.proofs.Maps.{list_seen}
use Rattle.eng_index.proofs.TagReads.{list_ascends, prev_shown}
use Rattle.eng_index.proofs.Index.prev.Goals as goal

pub returns : goal.returns
returns c = λ log shows.
    let is = c.of_tag.ensures ∙ sym (list_seen c.args.tag.0 c.self.inside.lists.entries) ∙ ap (seqnums_of c.args.tag.0) c.self.view_is in
    c.last_upto.ensures (list_ascends log c.args.self.now shows c.args.tag.0 c.of_tag.result.now is)
    ∙ prev_shown log c.args.self.now shows c.args.tag.0 c.of_tag.result.now is c.args.upto.0
