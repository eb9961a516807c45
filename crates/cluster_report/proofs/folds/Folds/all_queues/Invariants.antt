use Rattle.std.proofs.Common.{◌≡◌, ◌++◌}
use Rattle.cluster_report.proofs.folds.Folds.all_queues.Given as goal

abbrev pub invariant-loop-name : goal.invariant-loop-name
invariant-loop-name l = l.all ++ l.name-iterator ≡ l.self.queues.entries
