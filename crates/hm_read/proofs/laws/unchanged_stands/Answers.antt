use Rattle.hm_read.proofs.Kept.{unchanged_stands}
use Rattle.hm_read.proofs.laws.unchanged_stands.Goals as goal

pub returns : goal.returns
returns c = unchanged_stands
