use Rattle.std.proofs.Common.{◌∙◌, arith}
use Rattle.obj_store.proofs.Fronts.{settled_step, settled_to_end}
use Rattle.obj_store.proofs.every.sweep_objects.Goals as goal

pub loop-index-preserved : goal.loop-index-preserved
loop-index-preserved c = record {
  keys = c.sweep_object_at.ensures.keys ∙ c.loop-index.invariant.keys;
  settled = λ up.
      settled_step c.args.floor.0 c.loop-index.index c.args.objects.now.entries c.loop-index.objects.entries c.sweep_object_at.new.objects.entries up (omega arith) (c.loop-index.invariant.settled up) c.sweep_object_at.ensures.settled;
}

pub returns-clause-settled : goal.returns-clause-settled
returns-clause-settled c = λ up. settled_to_end c.args.floor.0 c.loop-index.index c.args.objects.now.entries c.loop-index.objects.entries (omega arith) (c.loop-index.invariant.settled up)
