use Rattle.std.proofs.Common.{take}
use Rattle.obj_store.specs.StandsFor.{KeysDiffer}
use Rattle.obj_store.specs.Steps.{HoldsInitialObjects}
use Rattle.obj_store.proofs.objects.initial.Given as goal

abbrev pub invariant-loop-key : goal.invariant-loop-key
invariant-loop-key l = KeysDiffer l.values → HoldsInitialObjects (take l.key-index l.values) l.objects.entries
