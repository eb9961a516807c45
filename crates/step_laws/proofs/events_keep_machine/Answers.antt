use Rattle.step_laws.proofs.Kept.{events_keep_machine}
use Rattle.step_laws.proofs.events_keep_machine.Goals as goal

pub returns : goal.returns
returns c = events_keep_machine
