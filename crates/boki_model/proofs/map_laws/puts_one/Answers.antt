use Rattle.boki_model.proofs.KeyMaps.{puts_one}
use Rattle.boki_model.proofs.map_laws.puts_one.Goals as goal

pub returns : goal.returns
returns g c = puts_one
