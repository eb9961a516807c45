use Rattle.step_log.specs.Sound.{live_bodies}
use Rattle.boki_queue.specs.QueueStates.{AreQueueFolds}
use Rattle.tests_queues.proofs.histories.all_agree.Given as goal

abbrev pub invariant-looks : goal.invariant-looks
invariant-looks l = AreQueueFolds l.cache (live_bodies l.book)
