use Rattle.hm_read.proofs.Kept.{holding_is_kept}
use Rattle.hm_read.proofs.laws.holding_is_kept.Goals as goal

pub returns : goal.returns
returns c = holding_is_kept
