use Rattle.std.proofs.Common.{IfOk, sym, subst}
use Rattle.step_log.specs.Sound.{view, live_bodies}
use Rattle.boki_txn.specs.TxnStates.{AreTxnFolds, IsValueTold}
use Rattle.boki_txn.specs.Walks.{kept_names}
use Rattle.boki_txn.proofs.Told.{folds_after_value}
use Rattle.boki_txn.proofs.cache.TxnCache.snapshot_get.Goals as goal

pub returns-clause-ok : goal.returns-clause-ok
returns-clause-ok c =
    subst (λ q. IfOk c.told_value.result (IsValueTold q c.args.seq.0 (view c.args.book.now c.args.engine) c.args.self.now (kept_names c.told_value.new.entries)))
    c.in_ok-owned.ensures
    (subst (λ l. IfOk c.told_value.result (IsValueTold c.in_ok-owned.owned c.args.seq.0 (view c.args.book.now c.args.engine) l (kept_names c.told_value.new.entries)))
    c.self.view_is c.told_value.ensures.ok)

pub returns-clause-folds : goal.returns-clause-folds
returns-clause-folds c =
    folds_after_value c.args.book.now c.args.engine c.requires.sound c.told_value.result c.in_ok-owned.owned c.args.seq.0 (kept_names c.self.inside.entries) (kept_names c.told_value.new.entries)
    (subst (λ l. AreTxnFolds l (live_bodies c.args.book.now)) (sym c.self.view_is) c.requires.folds) c.told_value.ensures.ok c.told_value.ensures.err
