use Rattle.boki_model.proofs.Logs.{live_falls}
use Rattle.boki_model.proofs.log_laws.seqnums_fall.Goals as goal

pub returns : goal.returns
returns g c = live_falls
