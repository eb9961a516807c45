use Rattle.std.proofs.Common.{◌≡◌}
use Rattle.std.specs.Map.{keys_of}
use Rattle.obj_store.specs.Steps.{AllAscend}
use Rattle.obj_store.proofs.Fronts.{settled_front}
use Rattle.obj_store.proofs.every.sweep_objects.Given as goal

abbrev pub invariant-loop-index : goal.invariant-loop-index
invariant-loop-index l = record {
  keys : keys_of l.objects.entries ≡ keys_of l.initial.objects.entries;
  settled : AllAscend l.initial.objects.entries → l.objects.entries ≡ settled_front l.floor.0 l.index l.initial.objects.entries;
}
