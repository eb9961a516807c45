use Rattle.std.proofs.Common.{◌≡◌, ◌+◌, ◌-◌, ◌≤◌, map, length}
use Rattle.std.specs.Prelude.{IsTrue}
use Rattle.std.specs.List.{AllByRecursion}
use Rattle.boki_model.specs.Plans.{is_event, repeat_events}
use Rattle.boki_machine.specs.Machine.{Machine}
use Rattle.nemesis_types.specs.Kept.{numbered_nemesis}
use Rattle.run_with.specs.Runs.{state, run_from}
use Rattle.run_with.proofs.Going.{Going}
use Rattle.run_loops.proofs.running.run_repeat.Given as goal

abbrev pub invariant-times : goal.invariant-times
invariant-times g l = record {
  going :
      (m : Machine) → g.C.Cluster.stands l.fn.cluster l.plan.setup l.plan.program.functions m
      → Going (g.C.Cluster.line_text l.plan.program.functions) (g.C.Cluster.stands l.cluster l.plan.setup l.plan.program.functions)
      (run_from l.plan.setup l.plan.program.functions l.fn.n (repeat_events l.times l.events) (state m (map (λ b. numbered_nemesis b.0 ((goal.Nemesis-dyn g (b.1.vtable, b.1.value)).automaton b.1.value)) l.fn.kept.items)))
      (g.K.Sink.held l.fn.sink) (g.K.Sink.held l.sink)
      (λ m'. run_from l.plan.setup l.plan.program.functions l.n (repeat_events (l.times - l.counter) l.events) (state m' (map (λ b. numbered_nemesis b.0 ((goal.Nemesis-dyn g (b.1.vtable, b.1.value)).automaton b.1.value)) l.kept.items)));
  valid : AllByRecursion (λ e. IsTrue (is_event l.plan.setup l.plan.program.functions e)) (repeat_events (l.times - l.counter) l.events);
  number : l.n + length (repeat_events (l.times - l.counter) l.events) ≡ l.fn.n + length (repeat_events l.times l.events);
  of : g.C.Cluster.is_of_plan l.cluster l.plan;
  later : g.K.Sink.faults l.fn.sink ≤ g.K.Sink.faults l.sink;
}
