use Rattle.std.proofs.Common.{◌-◌, ◌<◌, List, length, refl, sym, subst, arith}
use Rattle.step_log.specs.Sound.{live_bodies}
use Rattle.fold_cache.specs.Kept.{KeptState}
use Rattle.boki_queue.specs.QueueStates.{QueueState, AreQueueFolds}
use Rattle.boki_flow.proofs.Standing.{weaker_ok}
use Rattle.boki_flow.proofs.CacheFolds.{all_at, queue_kept}
use Rattle.boki_flow.proofs.caches.pop_value.Goals as goal

pub pop_uncounted-requires-clause-folds : goal.pop_uncounted-requires-clause-folds
pop_uncounted-requires-clause-folds c =
    let stands = c.requires.engine.stands in
    let has = c.requires.engine.there in
    let lt : c.args.engine - 1 < length c.args.parts.now.queues.items = (let count = stands.sizes.queues in let engines = stands.sizes.engines in omega (arith, has.0, has.1, count, engines)) in
    subst (λ (kept : List (KeptState QueueState)). AreQueueFolds kept (live_bodies c.args.parts.now.book)) (sym c.index_mut-cache.ensures.value)
    (all_at (λ kept. AreQueueFolds kept (live_bodies c.args.parts.now.book)) c.args.parts.now.queues.items (c.args.engine - 1) c.index_mut-cache.result.now stands.folds.queues lt)

pub returns-clause-value : goal.returns-clause-value
returns-clause-value c = weaker_ok c.pop_uncounted.result _ _ c.pop_uncounted.ensures.ok (λ told is. is.value)

pub returns-clause-parts : goal.returns-clause-parts
returns-clause-parts c =
    queue_kept c.args.parts.now _ refl refl refl refl (c.args.engine - 1) c.pop_uncounted.new.self refl refl refl c.pop_uncounted.ensures.folds
