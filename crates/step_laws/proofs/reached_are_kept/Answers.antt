use Rattle.step_laws.proofs.Kept.{reached_are_kept}
use Rattle.step_laws.proofs.reached_are_kept.Goals as goal

pub returns : goal.returns
returns c = reached_are_kept
