use Rattle.std.proofs.Common.{◌≡◌}
use Rattle.std.specs.Iterator.Adapters.{zip_first, zip_second}
use Rattle.std.specs.Slice.Iter.{iter_rest}
use Rattle.script_run.specs.Answering.{put_each}
use Rattle.script_run.proofs.answers.set_each.Given as goal

abbrev pub invariant-pairs : goal.invariant-pairs
invariant-pairs l =
    (goal.iterator-pairs).can_next l.name-iterator
    × (goal.iterator-pairs).is_finite l.name-iterator
    × (put_each (iter_rest (zip_first l.name-iterator)) (iter_rest (zip_second l.name-iterator)) l.variables.items ≡ put_each l.fn.names l.fn.values l.fn.variables.items)
