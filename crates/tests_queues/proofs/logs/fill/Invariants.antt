use Rattle.tests_queues.specs.Logs.{IsLog}
use Rattle.tests_queues.proofs.logs.fill.Given as goal

abbrev pub invariant-loop-change : goal.invariant-loop-change
invariant-loop-change l = IsLog l.book
