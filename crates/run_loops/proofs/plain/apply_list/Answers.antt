use Rattle.std.proofs.Common.{◌+◌, refl, arith}
use Rattle.run_loops.proofs.Applied.{apply_start, apply_step}
use Rattle.run_loops.proofs.plain.apply_list.Goals as goal

pub events-init : goal.events-init
events-init g c = record {
  going = λ m s. apply_start c.args.plan.now.setup c.args.plan.now.program.functions _ _ c.args.events.now m s refl;
  number = omega arith;
  of = c.requires.plan;
}

pub events-preserved : goal.events-preserved
events-preserved g c = record {
  going = λ m s. apply_step c.args.plan.now.setup c.args.plan.now.program.functions _ _ c.args.events.now c.events.event-index c.event-item.result c.in_ok-line.line _ (omega arith) c.event-item.is (c.events.invariant.going m s) c.in_ok-line.ensures.done;
  number = omega (arith, c.events.invariant.number);
  of = c.in_ok-line.ensures.plan;
}
