use Rattle.exactly_once.proofs.OldVersions.VersionKeeps.{versions_keep}
use Rattle.exactly_once.proofs.Attempts.StepKeeps.{moves_keep}
use Rattle.exactly_once.proofs.Attempts.LostAnswerKeeps.{misses_keep}
use Rattle.exactly_once.proofs.Machines.EventKeeps.{events_keep}
use Rattle.exactly_once.proofs.Machines.ExactlyOnce.{events_are_exact}
use Rattle.exactly_once.proofs.events_are_exact.Goals as goal

pub returns : goal.returns
returns c = events_are_exact (events_keep (moves_keep versions_keep) (misses_keep versions_keep))
