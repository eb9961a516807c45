use Rattle.std.proofs.Common.{◌≡◌, map, take}
use Rattle.shard_store.proofs.Views.{progress_of}
use Rattle.shard_store.proofs.shards.Shards.progress.Given as goal

abbrev pub invariant-loop-i : goal.invariant-loop-i
invariant-loop-i l = take l.i l.into ≡ take l.i (map progress_of l.shard-items)
