use Rattle.exactly_once.proofs.Invariant.OpeningHolds.{holding_is_reported}
use Rattle.exactly_once.proofs.holding_is_reported.Goals as goal

pub returns : goal.returns
returns c = holding_is_reported
