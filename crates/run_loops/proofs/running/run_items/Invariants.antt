use Rattle.std.proofs.Common.{◌≡◌, ◌+◌, ◌≤◌, map, length, drop}
use Rattle.std.specs.Prelude.{IsTrue}
use Rattle.std.specs.List.{AllByRecursion}
use Rattle.boki_model.specs.Plans.{is_event, events}
use Rattle.boki_machine.specs.Machine.{Machine}
use Rattle.nemesis_types.specs.Kept.{numbered_nemesis}
use Rattle.run_with.specs.Runs.{state, run_from}
use Rattle.run_with.proofs.Going.{Going}
use Rattle.run_loops.proofs.running.run_items.Given as goal

abbrev pub invariant-items : goal.invariant-items
invariant-items g l = record {
  going :
      (m : Machine) → g.C.Cluster.stands l.fn.cluster l.plan.setup l.plan.program.functions m
      → Going (g.C.Cluster.line_text l.plan.program.functions) (g.C.Cluster.stands l.cluster l.plan.setup l.plan.program.functions)
      (run_from l.plan.setup l.plan.program.functions l.fn.n (events l.items) (state m (map (λ b. numbered_nemesis b.0 ((goal.Nemesis-dyn g (b.1.vtable, b.1.value)).automaton b.1.value)) l.fn.kept.items)))
      (g.K.Sink.held l.fn.sink) (g.K.Sink.held l.sink)
      (λ m'. run_from l.plan.setup l.plan.program.functions l.n (events (drop l.item-index l.items)) (state m' (map (λ b. numbered_nemesis b.0 ((goal.Nemesis-dyn g (b.1.vtable, b.1.value)).automaton b.1.value)) l.kept.items)));
  valid : AllByRecursion (λ e. IsTrue (is_event l.plan.setup l.plan.program.functions e)) (events (drop l.item-index l.items));
  number : l.n + length (events (drop l.item-index l.items)) ≡ l.fn.n + length (events l.items);
  of : g.C.Cluster.is_of_plan l.cluster l.plan;
  later : g.K.Sink.faults l.fn.sink ≤ g.K.Sink.faults l.sink;
}
