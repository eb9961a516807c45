use Rattle.machine_laws.proofs.Trims.{chosen_count}
use Rattle.machine_laws.proofs.chosen_count.Goals as goal

pub returns : goal.returns
returns c = chosen_count
