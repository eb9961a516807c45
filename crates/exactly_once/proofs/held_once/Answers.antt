use Rattle.exactly_once.proofs.OldVersions.VersionKeeps.{versions_keep}
use Rattle.exactly_once.proofs.Attempts.StepKeeps.{moves_keep}
use Rattle.exactly_once.proofs.Attempts.LostAnswerKeeps.{misses_keep}
use Rattle.exactly_once.proofs.Machines.EventKeeps.{events_keep}
use Rattle.exactly_once.proofs.AfterEvents.StoreBound.{held_once}
use Rattle.exactly_once.proofs.held_once.Goals as goal

pub returns : goal.returns
returns c = held_once (events_keep (moves_keep versions_keep) (misses_keep versions_keep))
