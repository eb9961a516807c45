use Rattle.meta_order.proofs.Blank.{there_are}
use Rattle.meta_order.proofs.laws.there_are_shards.Goals as goal

pub returns : goal.returns
returns c = there_are
