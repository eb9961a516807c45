use Rattle.boki_model.proofs.Logs.{new_place}
use Rattle.boki_model.proofs.log_laws.new_place_is_count.Goals as goal

pub returns : goal.returns
returns g c = new_place
