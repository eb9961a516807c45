use Rattle.fold_cache.proofs.Found.{found_recorded}
use Rattle.fold_cache.proofs.laws.found_are_recorded.Goals as goal

pub returns : goal.returns
returns c = found_recorded
