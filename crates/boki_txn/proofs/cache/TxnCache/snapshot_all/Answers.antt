use Rattle.std.proofs.Common.{sym, subst}
use Rattle.step_log.specs.Sound.{live_bodies}
use Rattle.boki_txn.specs.TxnStates.{AreTxnFolds}
use Rattle.boki_txn.specs.Walks.{kept_names}
use Rattle.boki_txn.proofs.Told.{folds_after_values}
use Rattle.boki_txn.proofs.cache.TxnCache.snapshot_all.Goals as goal

pub returns-clause-folds : goal.returns-clause-folds
returns-clause-folds c =
    folds_after_values c.args.book.now c.args.engine c.requires.sound c.told_values.result c.args.names.now c.args.seq.0 (kept_names c.self.inside.entries) (kept_names c.told_values.new.entries)
    (subst (λ l. AreTxnFolds l (live_bodies c.args.book.now)) (sym c.self.view_is) c.requires.folds) c.told_values.ensures.ok c.told_values.ensures.err
