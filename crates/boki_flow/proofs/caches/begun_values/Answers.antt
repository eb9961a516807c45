use Rattle.std.proofs.Common.{◌-◌, ◌<◌, List, length, refl, sym, subst, arith}
use Rattle.step_log.specs.Sound.{live_bodies}
use Rattle.fold_cache.specs.Kept.{KeptState}
use Rattle.boki_txn.specs.Names.{StoredNames}
use Rattle.boki_txn.specs.TxnStates.{AreTxnFolds}
use Rattle.boki_flow.proofs.Standing.{weaker_ok}
use Rattle.boki_flow.proofs.CacheFolds.{all_at, txn_kept}
use Rattle.boki_flow.proofs.caches.begun_values.Goals as goal

pub snapshot_all-requires-clause-folds : goal.snapshot_all-requires-clause-folds
snapshot_all-requires-clause-folds c =
    let stands = c.requires.stands in
    let has = c.requires.there in
    let lt : c.args.engine - 1 < length c.args.parts.now.txns.items = (let count = stands.sizes.txns in let engines = stands.sizes.engines in omega (arith, has.0, has.1, count, engines)) in
    subst (λ (kept : List (KeptState StoredNames)). AreTxnFolds kept (live_bodies c.args.parts.now.book)) (sym c.index_mut-cache.ensures.value)
    (all_at (λ kept. AreTxnFolds kept (live_bodies c.args.parts.now.book)) c.args.parts.now.txns.items (c.args.engine - 1) c.index_mut-cache.result.now stands.folds.txns lt)

pub returns-clause-values : goal.returns-clause-values
returns-clause-values c = weaker_ok c.snapshot_all.result _ _ c.snapshot_all.ensures.ok (λ told is. is.values)

pub returns-clause-parts : goal.returns-clause-parts
returns-clause-parts c =
    txn_kept c.args.parts.now _ refl refl refl refl (c.args.engine - 1) c.snapshot_all.new.self refl refl refl c.snapshot_all.ensures.folds
