use Rattle.std.proofs.Common.{◌≡◌, ◌++◌}
use Rattle.cluster_report.proofs.folds.Folds.all_results.Given as goal

abbrev pub invariant-loop-path : goal.invariant-loop-path
invariant-loop-path l = l.all ++ l.path-iterator ≡ l.self.results.entries
