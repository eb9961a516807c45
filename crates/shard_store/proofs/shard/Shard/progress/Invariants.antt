use Rattle.std.proofs.Common.{◌≡◌, length, drop}
use Rattle.boki_model.specs.Order.{least_count}
use Rattle.shard_store.proofs.shard.Shard.progress.Given as goal

abbrev pub invariant-loop-count : goal.invariant-loop-count
invariant-loop-count l = least_count l.least (drop l.count-index l.count-items) ≡ least_count (length l.self.records) l.self.counts
