use Rattle.std.proofs.Common.{◌≡◌, ◌++◌}
use Rattle.ideal_run.specs.declared.kept.Stored.{Stored}
use Rattle.ideal_run.specs.Standing.{map_values}
use Rattle.ideal_run.proofs.state.State.all_stored.Given as goal

abbrev pub invariant-loop-name : goal.invariant-loop-name
invariant-loop-name l = l.stores ++ map_values (λ (s : Stored). s.value) l.name-iterator ≡ map_values (λ (s : Stored). s.value) l.self.names.entries
