use Rattle.std.proofs.Common.{◌≡◌, ◌+◌}
use Rattle.cluster_run.specs.Killed.{running_count}
use Rattle.cluster_run.proofs.attempts.running_on.Given as goal

-- those counted and those of what is left are all
abbrev pub invariant-loop-attempt : goal.invariant-loop-attempt
invariant-loop-attempt l = l.count + running_count l.engine l.attempt-iterator ≡ running_count l.fn.engine l.fn.attempts.entries
