use Rattle.step_log.specs.Sound.{live_bodies}
use Rattle.boki_queue.specs.QueueStates.{AreQueueFolds}
use Rattle.tests_queues.proofs.rows.are_told.Given as goal

abbrev pub invariant-asks : goal.invariant-asks
invariant-asks l = AreQueueFolds l.cache (live_bodies l.book)
