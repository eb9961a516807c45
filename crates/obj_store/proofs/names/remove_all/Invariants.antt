use Rattle.std.proofs.Common.{◌≡◌, None, cond, take, length, ◌≤◌}
use Rattle.std.specs.List.{IsDistinct}
use Rattle.std.specs.Map.{keys_of}
use Rattle.boki_types.specs.declared.store.Name.{Name}
use Rattle.obj_store.specs.Kept.{same_name_pair, value_under}
use Rattle.obj_store.specs.Sweeps.{has_settled}
use Rattle.obj_store.proofs.names.remove_all.Given as goal

abbrev pub invariant-loop-write : goal.invariant-loop-write
invariant-loop-write l = record {
  finds : (n : Name) → value_under n l.names.entries ≡ cond (has_settled n (take l.write-index l.settled)) None (value_under n l.initial.names.entries);
  distinct : IsDistinct same_name_pair (keys_of l.initial.names.entries) → IsDistinct same_name_pair (keys_of l.names.entries);
  len : length l.names.entries ≤ length l.initial.names.entries;
}
