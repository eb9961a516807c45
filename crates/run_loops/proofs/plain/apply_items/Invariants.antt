use Rattle.std.proofs.Common.{◌≡◌, ◌+◌, length, drop}
use Rattle.std.specs.Prelude.{IsTrue}
use Rattle.std.specs.List.{AllByRecursion}
use Rattle.boki_model.specs.Plans.{is_event, events}
use Rattle.boki_machine.specs.Machine.{Machine, apply_events}
use Rattle.run_loops.proofs.Applied.{Along}
use Rattle.run_loops.proofs.plain.apply_items.Given as goal

abbrev pub invariant-items : goal.invariant-items
invariant-items g l = record {
  going :
      (m : Machine) → g.C.Cluster.stands l.fn.cluster l.plan.setup l.plan.program.functions m
      → Along (g.C.Cluster.stands l.cluster l.plan.setup l.plan.program.functions)
      (λ k. (apply_events l.plan.setup l.plan.program.functions (events (drop l.item-index l.items)) k).machine)
      (apply_events l.plan.setup l.plan.program.functions (events l.items) m).machine;
  valid : AllByRecursion (λ e. IsTrue (is_event l.plan.setup l.plan.program.functions e)) (events (drop l.item-index l.items));
  number : l.n + length (events (drop l.item-index l.items)) ≡ l.fn.n + length (events l.items);
  of : g.C.Cluster.is_of_plan l.cluster l.plan;
}
