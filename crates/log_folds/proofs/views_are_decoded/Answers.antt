use Rattle.log_folds.proofs.Said.{is_seen_said}
use Rattle.log_folds.proofs.views_are_decoded.Goals as goal

pub returns : goal.returns
returns g c = is_seen_said
