use Rattle.std.proofs.Common.{sym, subst}
use Rattle.step_log.specs.Sound.{live_bodies}
use Rattle.boki_queue.specs.QueueStates.{AreQueueFolds}
use Rattle.boki_queue.specs.Shared.{kept_states}
use Rattle.boki_queue.proofs.Told.{folds_after_pop}
use Rattle.boki_queue.proofs.cache.QueueCache.pop_at.Goals as goal

pub returns-clause-folds : goal.returns-clause-folds
returns-clause-folds g c =
    folds_after_pop c.told_pop.result c.args.book.now c.args.engine c.args.queue.now c.args.seq.0 (kept_states c.self.inside.rows.items c.self.inside.entries) (kept_states c.told_pop.new.rows.items c.told_pop.new.entries)
    c.requires.record (subst (λ l. AreQueueFolds l (live_bodies c.args.book.now)) (sym c.self.view_is) c.requires.folds) c.told_pop.ensures.ok c.told_pop.ensures.err
