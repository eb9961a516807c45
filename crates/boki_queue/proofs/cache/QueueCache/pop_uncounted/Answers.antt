use Rattle.std.proofs.Common.{◌≡◌, IfOk, Some, sym, subst}
use Rattle.step_log.specs.Sound.{view, live_bodies}
use Rattle.boki_queue.specs.QueueStates.{AreQueueFolds, IsPopTold, popped_at}
use Rattle.boki_queue.specs.Shared.{kept_states}
use Rattle.boki_queue.proofs.Told.{folds_after_pop}
use Rattle.boki_queue.proofs.cache.QueueCache.pop_uncounted.Goals as goal

pub uncounted_pop-requires-clause-record : goal.uncounted_pop-requires-clause-record
uncounted_pop-requires-clause-record c = subst (λ q. popped_at c.args.seq.0 (view c.args.book.now c.args.engine) ≡ Some q) (sym c.in_ok-name.ensures) c.requires.record

pub returns-clause-ok : goal.returns-clause-ok
returns-clause-ok c =
    subst (λ q. IfOk c.uncounted_pop.result (IsPopTold q c.args.seq.0 (view c.args.book.now c.args.engine) c.args.self.now (kept_states c.uncounted_pop.new.rows.items c.uncounted_pop.new.entries)))
    c.in_ok-name.ensures
    (subst (λ l. IfOk c.uncounted_pop.result (IsPopTold c.in_ok-name.name c.args.seq.0 (view c.args.book.now c.args.engine) l (kept_states c.uncounted_pop.new.rows.items c.uncounted_pop.new.entries)))
    c.self.view_is c.uncounted_pop.ensures.ok)

pub returns-clause-folds : goal.returns-clause-folds
returns-clause-folds c =
    folds_after_pop c.uncounted_pop.result c.args.book.now c.args.engine c.in_ok-name.name c.args.seq.0 (kept_states c.self.inside.rows.items c.self.inside.entries) (kept_states c.uncounted_pop.new.rows.items c.uncounted_pop.new.entries)
    (subst (λ q. popped_at c.args.seq.0 (view c.args.book.now c.args.engine) ≡ Some q) (sym c.in_ok-name.ensures) c.requires.record)
    (subst (λ l. AreQueueFolds l (live_bodies c.args.book.now)) (sym c.self.view_is) c.requires.folds) c.uncounted_pop.ensures.ok c.uncounted_pop.ensures.err
