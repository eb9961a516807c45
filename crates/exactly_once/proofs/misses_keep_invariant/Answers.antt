use Rattle.exactly_once.proofs.OldVersions.VersionKeeps.{versions_keep}
use Rattle.exactly_once.proofs.Attempts.LostAnswerKeeps.{misses_keep}
use Rattle.exactly_once.proofs.misses_keep_invariant.Goals as goal

pub returns : goal.returns
returns c = misses_keep versions_keep
