use Rattle.exactly_once.proofs.OldVersions.VersionKeeps.{decided_reads_stay}
use Rattle.exactly_once.proofs.decided_reads_stay.Goals as goal

pub returns : goal.returns
returns c = decided_reads_stay
