use Rattle.std.proofs.Common.{◌≡◌, ◌++◌}
use Rattle.std.specs.Prelude.{zip}
use Rattle.std.specs.Iterator.Adapters.{zip_first, zip_second}
use Rattle.std.specs.Slice.Iter.{iter_rest}
use Rattle.attempt_store.proofs.reading.pairs_of.Given as goal

abbrev pub invariant-pairs : goal.invariant-pairs
invariant-pairs l =
    (goal.iterator-pairs).can_next l.name-iterator
    × (goal.iterator-pairs).is_finite l.name-iterator
    × (l.pairs.items ++ zip (iter_rest (zip_first l.name-iterator)) (iter_rest (zip_second l.name-iterator)) ≡ zip l.fn.names l.fn.values)
