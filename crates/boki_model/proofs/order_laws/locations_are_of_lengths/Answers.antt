use Rattle.boki_model.proofs.Cuts.{same_places}
use Rattle.boki_model.proofs.order_laws.locations_are_of_lengths.Goals as goal

pub returns : goal.returns
returns g c = same_places
