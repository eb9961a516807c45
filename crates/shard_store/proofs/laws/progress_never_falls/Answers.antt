use Rattle.shard_store.proofs.Progress.{never_falls}
use Rattle.shard_store.proofs.laws.progress_never_falls.Goals as goal

pub returns : goal.returns
returns c = never_falls
