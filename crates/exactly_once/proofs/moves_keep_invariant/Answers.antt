use Rattle.exactly_once.proofs.OldVersions.VersionKeeps.{versions_keep}
use Rattle.exactly_once.proofs.Attempts.StepKeeps.{moves_keep}
use Rattle.exactly_once.proofs.moves_keep_invariant.Goals as goal

pub returns : goal.returns
returns c = moves_keep versions_keep
