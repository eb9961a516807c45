use Rattle.std.proofs.Common.{◌≡◌, ◌+◌, ◌-◌, length}
use Rattle.std.specs.Prelude.{IsTrue}
use Rattle.std.specs.List.{AllByRecursion}
use Rattle.boki_model.specs.Plans.{is_event, repeat_events}
use Rattle.boki_machine.specs.Machine.{Machine, apply_events}
use Rattle.run_loops.proofs.Applied.{Along}
use Rattle.run_loops.proofs.plain.apply_repeat.Given as goal

abbrev pub invariant-times : goal.invariant-times
invariant-times g l = record {
  going :
      (m : Machine) → g.C.Cluster.stands l.fn.cluster l.plan.setup l.plan.program.functions m
      → Along (g.C.Cluster.stands l.cluster l.plan.setup l.plan.program.functions)
      (λ k. (apply_events l.plan.setup l.plan.program.functions (repeat_events (l.times - l.counter) l.events) k).machine)
      (apply_events l.plan.setup l.plan.program.functions (repeat_events l.times l.events) m).machine;
  valid : AllByRecursion (λ e. IsTrue (is_event l.plan.setup l.plan.program.functions e)) (repeat_events (l.times - l.counter) l.events);
  number : l.n + length (repeat_events (l.times - l.counter) l.events) ≡ l.fn.n + length (repeat_events l.times l.events);
  of : g.C.Cluster.is_of_plan l.cluster l.plan;
}
