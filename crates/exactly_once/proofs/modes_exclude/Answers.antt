use Rattle.exactly_once.proofs.Log.ModesAndFloors.{modes_exclude}
use Rattle.exactly_once.proofs.modes_exclude.Goals as goal

pub returns : goal.returns
returns c = modes_exclude
