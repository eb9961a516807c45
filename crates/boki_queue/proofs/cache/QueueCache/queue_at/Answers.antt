use Rattle.std.proofs.Common.{◌≡◌, IfOk, Some, sym, subst}
use Rattle.step_log.specs.Sound.{view, live_bodies}
use Rattle.boki_queue.specs.QueueStates.{AreQueueFolds, IsQueueTold, queue_at}
use Rattle.boki_queue.specs.Shared.{kept_states}
use Rattle.boki_queue.proofs.Told.{folds_after_queue}
use Rattle.boki_queue.proofs.cache.QueueCache.queue_at.Goals as goal

pub returns-clause-ok : goal.returns-clause-ok
returns-clause-ok c =
    subst (λ q. IfOk c.told_values.result (IsQueueTold q c.args.seq.0 (view c.args.book.now c.args.engine) c.args.self.now (kept_states c.told_values.new.rows.items c.told_values.new.entries)))
    c.in_ok-name.ensures
    (subst (λ l. IfOk c.told_values.result (IsQueueTold c.in_ok-name.name c.args.seq.0 (view c.args.book.now c.args.engine) l (kept_states c.told_values.new.rows.items c.told_values.new.entries)))
    c.self.view_is c.told_values.ensures.ok)

pub returns-clause-folds : goal.returns-clause-folds
returns-clause-folds c =
    folds_after_queue c.told_values.result c.args.book.now c.args.engine c.in_ok-name.name c.args.seq.0 (kept_states c.self.inside.rows.items c.self.inside.entries) (kept_states c.told_values.new.rows.items c.told_values.new.entries)
    (subst (λ q. queue_at c.args.seq.0 (view c.args.book.now c.args.engine) ≡ Some q) (sym c.in_ok-name.ensures) c.requires.record)
    (subst (λ l. AreQueueFolds l (live_bodies c.args.book.now)) (sym c.self.view_is) c.requires.folds) c.told_values.ensures.ok c.told_values.ensures.err
