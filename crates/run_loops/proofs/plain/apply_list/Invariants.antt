use Rattle.std.proofs.Common.{◌≡◌, ◌+◌, drop}
use Rattle.boki_machine.specs.Machine.{Machine, apply_events}
use Rattle.run_loops.proofs.Applied.{Along}
use Rattle.run_loops.proofs.plain.apply_list.Given as goal

abbrev pub invariant-events : goal.invariant-events
invariant-events g l = record {
  going :
      (m : Machine) → g.C.Cluster.stands l.fn.cluster l.plan.setup l.plan.program.functions m
      → Along (g.C.Cluster.stands l.cluster l.plan.setup l.plan.program.functions)
      (λ k. (apply_events l.plan.setup l.plan.program.functions (drop l.event-index l.events) k).machine)
      (apply_events l.plan.setup l.plan.program.functions l.events m).machine;
  number : l.n ≡ l.fn.n + l.event-index;
  of : g.C.Cluster.is_of_plan l.cluster l.plan;
}
