use Rattle.boki_model.proofs.Logs.{places_ascend}
use Rattle.boki_model.proofs.log_laws.places_are_ascending.Goals as goal

pub returns : goal.returns
returns g c = places_ascend
