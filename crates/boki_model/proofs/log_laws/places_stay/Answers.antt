use Rattle.boki_model.proofs.Logs.{places_stay}
use Rattle.boki_model.proofs.log_laws.places_stay.Goals as goal

pub returns : goal.returns
returns g c = places_stay
