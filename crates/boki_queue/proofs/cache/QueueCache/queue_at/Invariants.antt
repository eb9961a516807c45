use Rattle.boki_queue.proofs.cache.QueueCache.queue_at.Given as goal

abbrev pub ghosts-told_values : goal.ghosts-told_values
ghosts-told_values a = record { name = a.blank.name; parts = a.blank.parts }
