use Rattle.exactly_once.proofs.OldVersions.VersionKeeps.{versions_keep}
use Rattle.exactly_once.proofs.putting_keeps_invariant.Goals as goal

pub returns : goal.returns
returns c = versions_keep
