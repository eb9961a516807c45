use Rattle.std.proofs.Common.{◌≡◌, [], take}
use Rattle.obj_store.specs.Keys.{with_keys}
use Rattle.obj_store.proofs.sorted.sorted_keys.Given as goal

abbrev pub invariant-loop-index : goal.invariant-loop-index
invariant-loop-index l = l.sorted.entries ≡ with_keys (take l.index l.objects.entries) []
