use Rattle.boki_queue.proofs.Told.{folds_stay}
use Rattle.boki_queue.proofs.laws.queue_folds_stay.Goals as goal

pub returns : goal.returns
returns c = folds_stay
