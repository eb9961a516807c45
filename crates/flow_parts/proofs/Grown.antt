-- What engines keep stays a fold where newer records are ordered and positions rise.
use Rattle.std.proofs.Common.{◌≡◌, ◌∙◌, ℕ, suc, ◌≤◌, ◌<◌, List, ◌++◌, length, refl, sym, ap, subst, le_trans}
use Rattle.std.specs.Prelude.{slice_index_or}
use Rattle.std.specs.List.{AllByRecursion}
use Rattle.boki_types.specs.declared.body.Body.{Body}
use Rattle.boki_types.specs.declared.plan.Setup.{Setup}
use Rattle.boki_model.specs.Live.{LogRecord, Live, live, upto}
use Rattle.boki_model.specs.Order.{order}
use Rattle.exactly_once.proofs.Log.ListElements.{each_weaker}
use Rattle.log_folds.proofs.ByTag.{are_oldest}
use Rattle.book_api.specs.Books.{BookState, position}
use Rattle.step_log.specs.Sound.{bodies, live_bodies}
use Rattle.hm_switch.specs.SwitchStates.{SwitchState, IsFoldOf}
use Rattle.boki_queue.specs.QueueStates.{AreQueueFolds}
use Rattle.boki_queue.proofs.Told as queue
use Rattle.boki_txn.specs.TxnStates.{AreTxnFolds}
use Rattle.boki_txn.proofs.Told as txn
use Rattle.flow_parts.specs.declared.parts.Parts.{Parts}
use Rattle.flow_parts.specs.Parts.{IsSwitchOf, AreFolds}

-- the bodies of the ordered records
abbrev pub log_bodies : BookState → List (LogRecord Body)
log_bodies book = order (bodies book) book.vectors

-- newer records were ordered, if any, and no position falls
pub record GrowsTo (old new : BookState) : Type 0 where
  pub news : List (LogRecord Body)
  pub log_is : log_bodies new ≡ news ++ log_bodies old
  pub within : (engine : ℕ) → position old engine ≤ length (log_bodies old)
  pub rise : (engine : ℕ) → position old engine ≤ position new engine

module _ (setup : Setup) (old : Parts) (folds : AreFolds setup old) (book : BookState) (grows : GrowsTo old.book book) where
  live_is : live (grows.news ++ log_bodies old.book) ≡ live_bodies book
  live_is = ap live (sym grows.log_is)

  switch_grows : (k : ℕ) (s : SwitchState) → IsSwitchOf setup old.book (suc k) s → IsSwitchOf setup book (suc k) s
  switch_grows k s is = record {
    first = is.first;
    follows = record {
      within = le_trans is.follows.within (grows.rise (suc k));
      fold = subst (λ (records : List (Live Body)). IsFoldOf records s)
          (sym ((are_oldest (log_bodies old.book) s.position).still_seen grows.news (le_trans is.follows.within (grows.within (suc k))))
          ∙ ap (upto s.position) live_is) is.follows.fold;
    };
  }

  pub folds_grow : AreFolds setup (record old { book = book })
  folds_grow = record {
    queues = each_weaker (λ kept. AreQueueFolds kept (live_bodies old.book)) (λ kept. AreQueueFolds kept (live_bodies book))
        (λ kept are. subst (AreQueueFolds kept) live_is (queue.folds_stay kept grows.news (log_bodies old.book) are)) old.queues.items folds.queues;
    txns = each_weaker (λ kept. AreTxnFolds kept (live_bodies old.book)) (λ kept. AreTxnFolds kept (live_bodies book))
        (λ kept are. subst (AreTxnFolds kept) live_is (txn.folds_stay kept grows.news (log_bodies old.book) are)) old.txns.items folds.txns;
    switches = λ k d lt. switch_grows k (slice_index_or old.switches.items k d) (folds.switches k d lt);
  }
