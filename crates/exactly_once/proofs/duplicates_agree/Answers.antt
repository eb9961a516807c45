use Rattle.exactly_once.proofs.OldVersions.VersionKeeps.{versions_keep}
use Rattle.exactly_once.proofs.Attempts.StepKeeps.{moves_keep}
use Rattle.exactly_once.proofs.Attempts.LostAnswerKeeps.{misses_keep}
use Rattle.exactly_once.proofs.Machines.EventKeeps.{events_keep}
use Rattle.exactly_once.proofs.AfterEvents.AnyEvents.{duplicates_agree}
use Rattle.exactly_once.proofs.duplicates_agree.Goals as goal

pub returns : goal.returns
returns c = duplicates_agree (events_keep (moves_keep versions_keep) (misses_keep versions_keep))
