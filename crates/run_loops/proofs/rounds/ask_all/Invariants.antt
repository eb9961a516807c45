use Rattle.std.proofs.Common.{◌≡◌, ◌+◌, ◌-◌, ◌≤◌, map, vec_len, length}
use Rattle.boki_machine.specs.Machine.{Machine}
use Rattle.nemesis_types.specs.Kept.{numbered_nemesis}
use Rattle.run_with.specs.Runs.{state, ask_from}
use Rattle.run_with.proofs.Going.{Going}
use Rattle.run_loops.proofs.rounds.ask_all.Given as goal

abbrev pub invariant-turns : goal.invariant-turns
invariant-turns g l = record {
  going :
      (m : Machine) → g.C.Cluster.stands l.fn.cluster l.plan.setup l.plan.program.functions m
      → Going (g.C.Cluster.line_text l.plan.program.functions) (g.C.Cluster.stands l.cluster l.plan.setup l.plan.program.functions)
      (ask_from l.plan.setup l.plan.program.functions l.seen (vec_len l.fn.kept) 0 (state m (map (λ b. numbered_nemesis b.0 ((goal.Nemesis-dyn g (b.1.vtable, b.1.value)).automaton b.1.value)) l.fn.kept.items)))
      (g.K.Sink.held l.fn.sink) (g.K.Sink.held l.sink)
      (λ m'. ask_from l.plan.setup l.plan.program.functions l.seen (l.end - l.counter) l.at (state m' (map (λ b. numbered_nemesis b.0 ((goal.Nemesis-dyn g (b.1.vtable, b.1.value)).automaton b.1.value)) l.kept.items)));
  places : l.at + (l.end - l.counter) ≡ length l.kept.items;
  of : g.C.Cluster.is_of_plan l.cluster l.plan;
  later : g.K.Sink.faults l.fn.sink ≤ g.K.Sink.faults l.sink;
}
