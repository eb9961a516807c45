use Rattle.obj_store.specs.Steps.{LiftsBases}
use Rattle.obj_store.proofs.every.lift_all.Given as goal

abbrev pub invariant-loop-key : goal.invariant-loop-key
invariant-loop-key l = LiftsBases l.yielded l.initial.objects.entries l.objects.entries
