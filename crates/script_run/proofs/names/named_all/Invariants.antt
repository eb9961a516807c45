use Rattle.std.proofs.Common.{◌≡◌}
use Rattle.std.specs.Vec.Iter.{into_iter_items}
use Rattle.script_run.specs.Pairs.{try_map, named_of}
use Rattle.script_run.proofs.Each.{behind_list}
use Rattle.script_run.proofs.names.named_all.Given as goal

abbrev pub invariant-writes : goal.invariant-writes
invariant-writes l =
    (goal.iterator-writes).can_next l.pair-iterator
    × (goal.iterator-writes).is_finite l.pair-iterator
    × (behind_list l.writes (try_map named_of (into_iter_items l.pair-iterator)) ≡ try_map named_of l.fn.pairs)
