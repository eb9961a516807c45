use Rattle.std.proofs.Common.{◌≡◌, ◌<◌, ◌^◌}
use Rattle.obj_store.specs.Kept.{count_of}
use Rattle.obj_store.proofs.Fronts.{front_sum}
use Rattle.obj_store.proofs.every.count.Given as goal

abbrev pub invariant-loop-index : goal.invariant-loop-index
invariant-loop-index l = front_sum count_of l.index l.objects.entries < 2 ^ 64 → l.count ≡ front_sum count_of l.index l.objects.entries
