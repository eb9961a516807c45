use Rattle.machine_laws.proofs.Trims.{opening_is_chosen}
use Rattle.machine_laws.proofs.opening_is_chosen.Goals as goal

pub returns : goal.returns
returns c = opening_is_chosen
