use Rattle.std.proofs.Common.{◌≡◌, ◌-◌, length, drop}
use Rattle.boki_model.specs.Entries.{location_in_entry}
use Rattle.meta_order.proofs.vectors.location_in.Given as goal

abbrev pub invariant-loop-shard : goal.invariant-loop-shard
invariant-loop-shard l =
    location_in_entry (length l.new - l.shard) l.shard l.rest (drop l.shard l.old) (drop l.shard l.new) ≡ location_in_entry (length l.new) 0 l.number l.old l.new
