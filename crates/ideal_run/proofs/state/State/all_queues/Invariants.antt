use Rattle.std.proofs.Common.{◌≡◌, ◌++◌}
use Rattle.ideal_run.specs.Kept.{unpopped_values}
use Rattle.ideal_run.specs.Standing.{map_values}
use Rattle.ideal_run.proofs.state.State.all_queues.Given as goal

abbrev pub invariant-loop-name : goal.invariant-loop-name
invariant-loop-name l = l.queues ++ map_values unpopped_values l.name-iterator ≡ map_values unpopped_values l.self.queues.entries
