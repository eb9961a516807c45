use Rattle.attempt_log.proofs.Moves.{asked_are_moves}
use Rattle.attempt_log.proofs.laws.asked_are_moves.Goals as goal

pub returns : goal.returns
returns c = asked_are_moves
