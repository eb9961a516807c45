use Rattle.std.proofs.Common.{◌≡◌, ◌<◌, ◌^◌}
use Rattle.obj_store.specs.Steps.{AllAscend, count_at_cursor}
use Rattle.obj_store.proofs.Fronts.{front_sum}
use Rattle.obj_store.proofs.every.count_at.Given as goal

abbrev pub invariant-loop-index : goal.invariant-loop-index
invariant-loop-index l =
    AllAscend l.objects.entries → front_sum (count_at_cursor l.cursor.0) l.index l.objects.entries < 2 ^ 64
    → l.count ≡ front_sum (count_at_cursor l.cursor.0) l.index l.objects.entries
