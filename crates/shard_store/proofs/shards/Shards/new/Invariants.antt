use Rattle.std.proofs.Common.{◌≡◌, [], replicate}
use Rattle.shard_store.proofs.shards.Shards.new.Given as goal

abbrev pub invariant-loop : goal.invariant-loop
invariant-loop l = l.all.items ≡ replicate l.counter (record { records = []; counts = replicate l.others 0 })
