use Rattle.std.proofs.Common.{◌-◌, ◌<◌, List, length, refl, sym, subst, arith}
use Rattle.step_log.specs.Sound.{live_bodies}
use Rattle.fold_cache.specs.Kept.{KeptState}
use Rattle.boki_txn.specs.Names.{StoredNames}
use Rattle.boki_txn.specs.TxnStates.{AreTxnFolds}
use Rattle.boki_flow.proofs.Standing.{weaker_ok}
use Rattle.boki_flow.proofs.CacheFolds.{all_at, txn_kept}
use Rattle.boki_flow.proofs.caches.is_committed.Goals as goal

pub commit_at-requires-clause-folds : goal.commit_at-requires-clause-folds
commit_at-requires-clause-folds c =
    let stands = c.requires.engine.stands in
    let has = c.requires.engine.there in
    let lt : c.args.engine - 1 < length c.args.parts.now.txns.items = (let count = stands.sizes.txns in let engines = stands.sizes.engines in omega (arith, has.0, has.1, count, engines)) in
    subst (λ (kept : List (KeptState StoredNames)). AreTxnFolds kept (live_bodies c.args.parts.now.book)) (sym c.index_mut-cache.ensures.value)
    (all_at (λ kept. AreTxnFolds kept (live_bodies c.args.parts.now.book)) c.args.parts.now.txns.items (c.args.engine - 1) c.index_mut-cache.result.now stands.folds.txns lt)

pub returns-clause-answer : goal.returns-clause-answer
returns-clause-answer c = weaker_ok c.commit_at.result _ _ c.commit_at.ensures.ok (λ told is. is.good)

pub returns-clause-parts : goal.returns-clause-parts
returns-clause-parts c =
    txn_kept c.args.parts.now _ refl refl refl refl (c.args.engine - 1) c.commit_at.new.self refl refl refl c.commit_at.ensures.folds
