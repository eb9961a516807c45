use Rattle.exactly_once.proofs.Log.ModesAndFloors.{floors_pass}
use Rattle.exactly_once.proofs.floors_pass.Goals as goal

pub returns : goal.returns
returns c = floors_pass
