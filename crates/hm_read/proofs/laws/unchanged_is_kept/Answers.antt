use Rattle.hm_read.proofs.Kept.{unchanged_is_kept}
use Rattle.hm_read.proofs.laws.unchanged_is_kept.Goals as goal

pub returns : goal.returns
returns c = unchanged_is_kept
