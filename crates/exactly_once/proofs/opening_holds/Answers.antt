use Rattle.exactly_once.proofs.Invariant.OpeningHolds.{opening_holds}
use Rattle.exactly_once.proofs.opening_holds.Goals as goal

pub returns : goal.returns
returns c = opening_holds
