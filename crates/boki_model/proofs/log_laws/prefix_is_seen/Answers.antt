use Rattle.boki_model.proofs.Logs.{prefix_seen}
use Rattle.boki_model.proofs.log_laws.prefix_is_seen.Goals as goal

pub returns : goal.returns
returns g c = prefix_seen
