use Rattle.std.proofs.Common.{take}
use Rattle.obj_store.specs.Steps.{RaisesFences}
use Rattle.obj_store.proofs.every.raise_all.Given as goal

abbrev pub invariant-loop-key : goal.invariant-loop-key
invariant-loop-key l = RaisesFences (take l.key-index l.keys) l.at.0 l.initial.objects.entries l.objects.entries
