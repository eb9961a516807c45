use Rattle.std.proofs.Common.{◌≡◌, ◌≤◌, length, List}
use Rattle.boki_types.specs.declared.program.Function.{Function}
use Rattle.boki_machine.specs.Machine.{NumberedAttempt}
use Rattle.cluster_run.specs.Clusters.{AttemptsStandFor}
use Rattle.cluster_run.proofs.Killing.{kill_first}
use Rattle.cluster_run.proofs.attempts.kill_on.Given as goal

abbrev pub invariant-loop-index : goal.invariant-loop-index
invariant-loop-index l = record {
  kills : (fs : List Function) (xs : List NumberedAttempt) → AttemptsStandFor fs xs l.fn.attempts.entries → AttemptsStandFor fs (kill_first l.engine l.index xs) l.attempts.entries;
  until : l.index-end ≡ length l.fn.attempts.entries;
  within : l.index ≤ l.index-end;
}
