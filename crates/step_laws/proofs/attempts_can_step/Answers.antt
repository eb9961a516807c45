use Rattle.step_laws.proofs.CanStep.{attempts_can_step}
use Rattle.step_laws.proofs.attempts_can_step.Goals as goal

pub returns : goal.returns
returns c = attempts_can_step
