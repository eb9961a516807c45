use Rattle.exactly_once.proofs.Invariant.QuietEvents.{quiet_events_keep}
use Rattle.exactly_once.proofs.quiet_events_keep_invariant.Goals as goal

pub returns : goal.returns
returns c = quiet_events_keep
