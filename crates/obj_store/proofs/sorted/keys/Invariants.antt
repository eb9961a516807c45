use Rattle.std.proofs.Common.{◌≡◌}
use Rattle.obj_store.proofs.sorted.keys.Given as goal

abbrev pub invariant-loop-key : goal.invariant-loop-key
invariant-loop-key l = l.keys.items ≡ l.yielded
