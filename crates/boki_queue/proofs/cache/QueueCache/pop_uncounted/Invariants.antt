use Rattle.boki_queue.proofs.cache.QueueCache.pop_uncounted.Given as goal

abbrev pub ghosts-uncounted_pop : goal.ghosts-uncounted_pop
ghosts-uncounted_pop a = record { name = a.blank.name; parts = a.blank.parts }
