use Rattle.std.proofs.Common.{◌-◌}
use Rattle.cluster_report.proofs.Passed.{Passed}
use Rattle.cluster_report.proofs.turning.turns_of.Given as goal

abbrev pub invariant-loop-passed : goal.invariant-loop-passed
invariant-loop-passed l = Passed l.program.functions l.book l.store (l.length - l.passed) l.walk
