use Rattle.attempt_log.proofs.Moves.{inits_are_moves}
use Rattle.attempt_log.proofs.laws.inits_are_moves.Goals as goal

pub returns : goal.returns
returns c = inits_are_moves
