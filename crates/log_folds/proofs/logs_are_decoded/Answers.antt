use Rattle.log_folds.proofs.Said.{is_said}
use Rattle.log_folds.proofs.logs_are_decoded.Goals as goal

pub returns : goal.returns
returns g c = is_said
