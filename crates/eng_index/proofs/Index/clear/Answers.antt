use Rattle.std.proofs.Common.{◌∙◌}
use Rattle.eng_index.proofs.Maps.{list_seen}
use Rattle.eng_index.proofs.Index.clear.Goals as goal

pub returns : goal.returns
returns c = record {
  lists = λ tag. list_seen tag c.clear.new.lists.entries ∙ c.clear.ensures tag;
  marks = c.clear-2.ensures.items;
}
