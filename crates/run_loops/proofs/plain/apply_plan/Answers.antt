use Rattle.std.proofs.Common.{◌≤◌, length, arith}
use Rattle.boki_model.specs.Plans.{events}
use Rattle.run_with.proofs.Laws.{plan_events, plan_few}
use Rattle.run_loops.proofs.plain.apply_plan.Goals as goal

pub apply_items-requires-clause-valid : goal.apply_items-requires-clause-valid
apply_items-requires-clause-valid g c κs within = rw c.as_slice.ensures (plan_events c.args.plan.now c.requires.is_plan)

pub apply_items-requires-clause-room : goal.apply_items-requires-clause-room
apply_items-requires-clause-room g c κs within =
    let few : length (events c.args.plan.now.items) ≤ 200000 = plan_few c.args.plan.now c.requires.is_plan in
    rw c.as_slice.ensures (omega (arith, few))
