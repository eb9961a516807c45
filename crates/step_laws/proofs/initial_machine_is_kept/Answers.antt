use Rattle.step_laws.proofs.Kept.{initial_machine_is_kept}
use Rattle.step_laws.proofs.initial_machine_is_kept.Goals as goal

pub returns : goal.returns
returns c = initial_machine_is_kept
