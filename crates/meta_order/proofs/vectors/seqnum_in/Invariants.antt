use Rattle.std.proofs.Common.{◌≡◌, ◌+◌, ◌-◌, drop}
use Rattle.boki_model.specs.Entries.{rank_in_entry}
use Rattle.meta_order.proofs.vectors.seqnum_in.Given as goal

abbrev pub invariant-loop-other : goal.invariant-loop-other
invariant-loop-other l =
    l.before + rank_in_entry (l.shard - l.other) l.local (drop l.other l.old) (drop l.other l.new) ≡ l.start + rank_in_entry l.shard l.local l.old l.new
