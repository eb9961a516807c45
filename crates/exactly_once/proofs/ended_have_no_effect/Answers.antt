use Rattle.exactly_once.proofs.OldVersions.VersionKeeps.{versions_keep}
use Rattle.exactly_once.proofs.Attempts.StepKeeps.{moves_keep}
use Rattle.exactly_once.proofs.Attempts.LostAnswerKeeps.{misses_keep}
use Rattle.exactly_once.proofs.Machines.EventKeeps.{events_keep}
use Rattle.exactly_once.proofs.AfterEvents.AnyEvents.{ended_are_left}
use Rattle.exactly_once.proofs.ended_have_no_effect.Goals as goal

pub returns : goal.returns
returns c = ended_are_left (events_keep (moves_keep versions_keep) (misses_keep versions_keep))
