use Rattle.exactly_once.proofs.OldVersions.VersionKeeps.{versions_keep}
use Rattle.exactly_once.proofs.Attempts.StepKeeps.{moves_keep}
use Rattle.exactly_once.proofs.Attempts.LostAnswerKeeps.{misses_keep}
use Rattle.exactly_once.proofs.Machines.EventKeeps.{events_keep}
use Rattle.machine_laws.proofs.Kept.{events_keep_writes}
use Rattle.machine_laws.proofs.events_keep_writes.Goals as goal

pub returns : goal.returns
returns c = events_keep_writes (events_keep (moves_keep versions_keep) (misses_keep versions_keep))
