use Rattle.std.proofs.Common.{◌≡◌}
use Rattle.std.specs.Vec.Iter.{into_iter_items}
use Rattle.boki_model.specs.Values.{to_name}
use Rattle.script_run.specs.Pairs.{try_map}
use Rattle.script_run.proofs.Each.{behind_list}
use Rattle.script_run.proofs.names.names_of.Given as goal

abbrev pub invariant-names : goal.invariant-names
invariant-names l =
    (goal.iterator-names).can_next l.value-iterator
    × (goal.iterator-names).is_finite l.value-iterator
    × (behind_list l.names (try_map to_name (into_iter_items l.value-iterator)) ≡ try_map to_name l.fn.values)
