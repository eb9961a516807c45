use Rattle.std.proofs.Common.{◌≡◌}
use Rattle.std.specs.Iterator.Adapters.{zip_first, zip_second}
use Rattle.std.specs.Slice.Iter.{iter_rest}
use Rattle.boki_model.specs.Script.{pair_names}
use Rattle.script_run.specs.Answering.{put_each}
use Rattle.script_run.proofs.answers.set_named.Given as goal

abbrev pub invariant-pairs : goal.invariant-pairs
invariant-pairs l =
    (goal.iterator-pairs).can_next l.pair-iterator
    × (goal.iterator-pairs).is_finite l.pair-iterator
    × (put_each (pair_names (iter_rest (zip_first l.pair-iterator))) (iter_rest (zip_second l.pair-iterator)) l.variables.items ≡ put_each (pair_names l.fn.pairs) l.fn.values l.fn.variables.items)
