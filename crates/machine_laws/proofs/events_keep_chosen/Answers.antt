use Rattle.machine_laws.proofs.Trims.{events_keep_chosen}
use Rattle.machine_laws.proofs.events_keep_chosen.Goals as goal

pub returns : goal.returns
returns c = events_keep_chosen
