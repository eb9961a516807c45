use Rattle.boki_txn.proofs.Told.{folds_stay}
use Rattle.boki_txn.proofs.laws.txn_folds_stay.Goals as goal

pub returns : goal.returns
returns c = folds_stay
