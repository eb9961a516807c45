use Rattle.std.proofs.Common.{sym, subst}
use Rattle.step_log.specs.Sound.{live_bodies}
use Rattle.boki_txn.specs.TxnStates.{AreTxnFolds}
use Rattle.boki_txn.specs.Walks.{kept_names}
use Rattle.boki_txn.proofs.Told.{folds_after_commit}
use Rattle.boki_txn.proofs.cache.TxnCache.commit_at.Goals as goal

pub returns-clause-folds : goal.returns-clause-folds
returns-clause-folds c =
    folds_after_commit c.args.book.now c.args.engine c.requires.sound c.told_commit.result c.args.seq.0 (kept_names c.self.inside.entries) (kept_names c.told_commit.new.entries) c.requires.commit
    (subst (λ l. AreTxnFolds l (live_bodies c.args.book.now)) (sym c.self.view_is) c.requires.folds) c.told_commit.ensures.ok c.told_commit.ensures.err
