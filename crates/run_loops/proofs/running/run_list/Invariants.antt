use Rattle.std.proofs.Common.{◌≡◌, ◌+◌, ◌≤◌, map, drop}
use Rattle.boki_machine.specs.Machine.{Machine}
use Rattle.nemesis_types.specs.Kept.{numbered_nemesis}
use Rattle.run_with.specs.Runs.{state, run_from}
use Rattle.run_with.proofs.Going.{Going}
use Rattle.run_loops.proofs.running.run_list.Given as goal

abbrev pub invariant-events : goal.invariant-events
invariant-events g l = record {
  going :
      (m : Machine) → g.C.Cluster.stands l.fn.cluster l.plan.setup l.plan.program.functions m
      → Going (g.C.Cluster.line_text l.plan.program.functions) (g.C.Cluster.stands l.cluster l.plan.setup l.plan.program.functions)
      (run_from l.plan.setup l.plan.program.functions l.fn.n (l.events) (state m (map (λ b. numbered_nemesis b.0 ((goal.Nemesis-dyn g (b.1.vtable, b.1.value)).automaton b.1.value)) l.fn.kept.items)))
      (g.K.Sink.held l.fn.sink) (g.K.Sink.held l.sink)
      (λ m'. run_from l.plan.setup l.plan.program.functions l.n (drop l.event-index l.events) (state m' (map (λ b. numbered_nemesis b.0 ((goal.Nemesis-dyn g (b.1.vtable, b.1.value)).automaton b.1.value)) l.kept.items)));
  number : l.n ≡ l.fn.n + l.event-index;
  of : g.C.Cluster.is_of_plan l.cluster l.plan;
  later : g.K.Sink.faults l.fn.sink ≤ g.K.Sink.faults l.sink;
}
