use Rattle.std.proofs.Common.{sym, ap, ◌∙◌}
use Rattle.eng_index.specs.IndexState.{seqnums_of}
use Rattle.eng_index.proofs.Maps.{list_seen}
use Rattle.eng_index.proofs.TagReads.{nth_shown}
use Rattle.eng_index.proofs.Index.nth.Goals as goal

pub returns : goal.returns
returns c = λ log shows. c.at_place.ensures ∙ nth_shown log c.args.self.now shows c.args.tag.0 c.of_tag.result.now (c.of_tag.ensures ∙ sym (list_seen c.args.tag.0 c.self.inside.lists.entries) ∙ ap (seqnums_of c.args.tag.0) c.self.view_is) c.args.place
