-- Parts of which one engine keeps something else.
use Rattle.std.proofs.Common.{◌≡◌, ◌∙◌, ◌⊎◌, inl, inr, ℕ, zero, suc, ◌<◌, ◌≢◌, List, [], ◌∷◌, length, set, sym, ap, subst, arith}
use Rattle.std.specs.Prelude.{slice_index_or}
use Rattle.std.specs.List.{AllByRecursion}
use Rattle.std.proofs.lemmas.Bool.{cases_eq}
use Rattle.std.proofs.lemmas.List.{length-set, get_or-set_same, get_or-set_other}
use Rattle.boki_types.specs.declared.plan.Setup.{Setup}
use Rattle.boki_model.specs.Writes.{Store}
use Rattle.book_api.specs.Books.{BookState}
use Rattle.step_log.specs.Sound.{live_bodies}
use Rattle.obj_store.specs.Kept.{StoreState}
use Rattle.fold_cache.specs.Kept.{KeptState}
use Rattle.hm_read.specs.Kept.{AreKept}
use Rattle.hm_write.specs.Sends.{HasOrdered}
use Rattle.hm_switch.specs.SwitchStates.{SwitchState, Follows}
use Rattle.boki_queue.specs.QueueStates.{QueueState, AreQueueFolds}
use Rattle.boki_txn.specs.Names.{StoredNames}
use Rattle.boki_txn.specs.TxnStates.{AreTxnFolds}
use Rattle.flow_parts.specs.declared.parts.Parts.{Parts}
use Rattle.flow_parts.specs.Parts.{IsSwitchOf, AreFolds, PartsStandFor, KeepsParts}

-- each of a list in which one is another, and one of a list
pub all_set : {A : Type 0} (P : A → Type 0) (xs : List A) (i : ℕ) (x : A) → AllByRecursion P xs → P x → AllByRecursion P (set xs i x)
all_set P [] i x all is = tt
all_set P (y ∷ ys) zero x all is = (is, all.1)
all_set P (y ∷ ys) (suc i) x all is = (all.0, all_set P ys i x all.1 is)

pub all_at : {A : Type 0} (P : A → Type 0) (xs : List A) (i : ℕ) (d : A) → AllByRecursion P xs → i < length xs → P (slice_index_or xs i d)
all_at P [] i d all lt = absurd (let no_way : ⊥ = omega (arith, lt) in no_way)
all_at P (y ∷ ys) zero d all lt = all.0
all_at P (y ∷ ys) (suc i) d all lt = all_at P ys i d all.1 (let less : i < length ys = omega (arith, lt) in less)

module _ (old new : Parts) (book : new.book ≡ old.book) (store : new.store ≡ old.store) (first : new.first ≡ old.first) (newer : new.newer ≡ old.newer) where
  stand_again :
      (setup : Setup) (s : Store) → PartsStandFor setup s old → length new.queues.items ≡ length old.queues.items → length new.txns.items ≡ length old.txns.items
      → length new.switches.items ≡ length old.switches.items → AreFolds setup new → PartsStandFor setup s new
  stand_again setup s stands queues txns switches folds = record {
    kept = subst (λ (b : BookState). AreKept b new.store s) (sym book) (subst (λ (k : StoreState). AreKept old.book k s) (sym store) stands.kept);
    ordered = subst HasOrdered (sym book) stands.ordered;
    sizes = record {
      shards = ap (λ (b : BookState). length b.shards) book ∙ stands.sizes.shards;
      engines = ap (λ (b : BookState). length b.positions) book ∙ stands.sizes.engines;
      queues = queues ∙ stands.sizes.queues;
      txns = txns ∙ stands.sizes.txns;
      switches = switches ∙ stands.sizes.switches;
    };
    folds = folds;
    first = first ∙ stands.first;
    newer = newer ∙ stands.newer;
  }

  switches_same :
      (setup : Setup) → new.switches.items ≡ old.switches.items
      → ((k : ℕ) (d : SwitchState) → k < length old.switches.items → IsSwitchOf setup old.book (suc k) (slice_index_or old.switches.items k d))
      → (k : ℕ) (d : SwitchState) → k < length new.switches.items → IsSwitchOf setup new.book (suc k) (slice_index_or new.switches.items k d)
  switches_same setup same are =
      subst (λ (xs : List SwitchState). (k : ℕ) (d : SwitchState) → k < length xs → IsSwitchOf setup new.book (suc k) (slice_index_or xs k d)) (sym same)
      (subst (λ (b : BookState). (k : ℕ) (d : SwitchState) → k < length old.switches.items → IsSwitchOf setup b (suc k) (slice_index_or old.switches.items k d)) (sym book) are)

  -- another cache of queues
  pub queue_kept :
      (i : ℕ) (kept : List (KeptState QueueState)) → new.queues.items ≡ set old.queues.items i kept → new.txns.items ≡ old.txns.items → new.switches.items ≡ old.switches.items
      → AreQueueFolds kept (live_bodies old.book) → KeepsParts old new
  queue_kept i kept queues txns switches folds = record {
    book = book;
    store = store;
    stands = λ setup s stands. stand_again setup s stands (ap length queues ∙ length-set old.queues.items i kept) (ap length txns) (ap length switches) (record {
      queues = subst (λ (b : BookState). AllByRecursion (λ kept. AreQueueFolds kept (live_bodies b)) new.queues.items) (sym book)
          (subst (λ (xs : List (List (KeptState QueueState))). AllByRecursion (λ kept. AreQueueFolds kept (live_bodies old.book)) xs) (sym queues)
          (all_set (λ kept. AreQueueFolds kept (live_bodies old.book)) old.queues.items i kept stands.folds.queues folds));
      txns = subst (λ (b : BookState). AllByRecursion (λ kept. AreTxnFolds kept (live_bodies b)) new.txns.items) (sym book)
          (subst (λ (xs : List (List (KeptState StoredNames))). AllByRecursion (λ kept. AreTxnFolds kept (live_bodies old.book)) xs) (sym txns) stands.folds.txns);
      switches = switches_same setup switches stands.folds.switches;
    });
  }

  -- another cache of transactions
  pub txn_kept :
      (i : ℕ) (kept : List (KeptState StoredNames)) → new.queues.items ≡ old.queues.items → new.txns.items ≡ set old.txns.items i kept → new.switches.items ≡ old.switches.items
      → AreTxnFolds kept (live_bodies old.book) → KeepsParts old new
  txn_kept i kept queues txns switches folds = record {
    book = book;
    store = store;
    stands = λ setup s stands. stand_again setup s stands (ap length queues) (ap length txns ∙ length-set old.txns.items i kept) (ap length switches) (record {
      queues = subst (λ (b : BookState). AllByRecursion (λ kept. AreQueueFolds kept (live_bodies b)) new.queues.items) (sym book)
          (subst (λ (xs : List (List (KeptState QueueState))). AllByRecursion (λ kept. AreQueueFolds kept (live_bodies old.book)) xs) (sym queues) stands.folds.queues);
      txns = subst (λ (b : BookState). AllByRecursion (λ kept. AreTxnFolds kept (live_bodies b)) new.txns.items) (sym book)
          (subst (λ (xs : List (List (KeptState StoredNames))). AllByRecursion (λ kept. AreTxnFolds kept (live_bodies old.book)) xs) (sym txns)
          (all_set (λ kept. AreTxnFolds kept (live_bodies old.book)) old.txns.items i kept stands.folds.txns folds));
      switches = switches_same setup switches stands.folds.switches;
    });
  }

  -- another view of switches, of the same engine
  pub switch_kept :
      (i : ℕ) (s d : SwitchState) → i < length old.switches.items → new.queues.items ≡ old.queues.items → new.txns.items ≡ old.txns.items
      → new.switches.items ≡ set old.switches.items i s → s.first ≡ (slice_index_or old.switches.items i d).first → Follows old.book (suc i) s → KeepsParts old new
  switch_kept i s d lt queues txns switches first_is follows = record {
    book = book;
    store = store;
    stands = λ setup m stands. stand_again setup m stands (ap length queues) (ap length txns) (ap length switches ∙ length-set old.switches.items i s) (record {
      queues = subst (λ (b : BookState). AllByRecursion (λ kept. AreQueueFolds kept (live_bodies b)) new.queues.items) (sym book)
          (subst (λ (xs : List (List (KeptState QueueState))). AllByRecursion (λ kept. AreQueueFolds kept (live_bodies old.book)) xs) (sym queues) stands.folds.queues);
      txns = subst (λ (b : BookState). AllByRecursion (λ kept. AreTxnFolds kept (live_bodies b)) new.txns.items) (sym book)
          (subst (λ (xs : List (List (KeptState StoredNames))). AllByRecursion (λ kept. AreTxnFolds kept (live_bodies old.book)) xs) (sym txns) stands.folds.txns);
      switches = subst (λ (xs : List SwitchState). (k : ℕ) (d : SwitchState) → k < length xs → IsSwitchOf setup new.book (suc k) (slice_index_or xs k d)) (sym switches)
          (subst (λ (b : BookState). (k : ℕ) (d : SwitchState) → k < length (set old.switches.items i s) → IsSwitchOf setup b (suc k) (slice_index_or (set old.switches.items i s) k d)) (sym book)
          (λ k e less. one setup stands.folds.switches k e (let count = length-set old.switches.items i s in omega (arith, less, count)) (cases_eq k i)));
    });
  }
    where
      one :
          (setup : Setup) → ((k : ℕ) (d : SwitchState) → k < length old.switches.items → IsSwitchOf setup old.book (suc k) (slice_index_or old.switches.items k d))
          → (k : ℕ) (e : SwitchState) → k < length old.switches.items → (k ≡ i) ⊎ (k ≢ i) → IsSwitchOf setup old.book (suc k) (slice_index_or (set old.switches.items i s) k e)
      one setup are k e less (inl same) =
          subst (λ (j : ℕ). IsSwitchOf setup old.book (suc j) (slice_index_or (set old.switches.items i s) j e)) (sym same)
          (subst (IsSwitchOf setup old.book (suc i)) (sym (get_or-set_same old.switches.items i s e lt)) (record { first = first_is ∙ (are i d lt).first; follows = follows }))
      one setup are k e less (inr other) = subst (IsSwitchOf setup old.book (suc k)) (sym (get_or-set_other old.switches.items i k s e other)) (are k e less)
