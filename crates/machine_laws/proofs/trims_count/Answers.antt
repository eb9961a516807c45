use Rattle.exactly_once.proofs.OldVersions.VersionKeeps.{versions_keep}
use Rattle.exactly_once.proofs.Attempts.StepKeeps.{moves_keep}
use Rattle.exactly_once.proofs.Attempts.LostAnswerKeeps.{misses_keep}
use Rattle.exactly_once.proofs.Machines.EventKeeps.{events_keep}
use Rattle.machine_laws.proofs.Trims.{trims_count}
use Rattle.machine_laws.proofs.trims_count.Goals as goal

pub returns : goal.returns
returns c = trims_count (events_keep (moves_keep versions_keep) (misses_keep versions_keep))
