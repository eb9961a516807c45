use Rattle.exactly_once.proofs.Invariant.MicroSteps.{micro_steps_keep}
use Rattle.exactly_once.proofs.micro_steps_keep_invariant.Goals as goal

pub returns : goal.returns
returns c = micro_steps_keep
