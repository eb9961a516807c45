-- One engine's view of switches is another one.
use Rattle.std.proofs.Common.{◌≡◌, ◌∙◌, ℕ, suc, ◌-◌, ◌≤◌, ◌<◌, Bool, true, false, eqb, List, length, refl, sym, ap, subst, length-set, arith}
use Rattle.std.specs.Prelude.{slice_index_or, slice_set}
use Rattle.std.proofs.lemmas.List.{get_or-set_same, get_or-set_other}
use Rattle.std.proofs.lemmas.Bool.{eqb-true, eqb-false}
use Rattle.boki_types.specs.declared.plan.Setup.{Setup}
use Rattle.boki_types.specs.declared.program.Function.{Function}
use Rattle.boki_machine.specs.Machine.{Machine, live_records}
use Rattle.std.specs.List.{AllByRecursion}
use Rattle.book_api.specs.Books.{BookState, HasEngine}
use Rattle.step_log.specs.Sound.{live_bodies, Sound}
use Rattle.obj_store.specs.Kept.{StoreState}
use Rattle.obj_store.specs.StandsFor.{StandsFor}
use Rattle.boki_queue.specs.QueueStates.{AreQueueFolds}
use Rattle.boki_txn.specs.TxnStates.{AreTxnFolds}
use Rattle.boki_model.specs.Plans.{is_from_one_to}
use Rattle.hm_switch.specs.SwitchStates.{SwitchState, IsCurrent}
use Rattle.flow_parts.specs.declared.parts.Parts.{Parts}
use Rattle.flow_parts.specs.Parts.{IsSwitchOf}
use Rattle.cluster_events.specs.Machines.{IsBookOf, HasReplicas, PartsAreOf, AreParts}
use Rattle.cluster_events.specs.Views.{IsAdvanced}
use Rattle.cluster_events.proofs.Needs.{has_slot, from_one, slot_there}
use Rattle.cluster_events.proofs.Done.{are_after, store_stands}

module _ (setup : Setup) (fs : List Function) (m : Machine) (old : Parts) (are : PartsAreOf setup fs m old) (engine : ℕ) (one : 1 ≤ engine) (there : engine - 1 < length old.switches.items) where
  -- the view that was there
  pub had : (d : SwitchState) → IsSwitchOf setup old.book engine (slice_index_or old.switches.items (engine - 1) d)
  had d = subst (λ n. IsSwitchOf setup old.book n (slice_index_or old.switches.items (engine - 1) d)) (omega (arith, one)) (are.stand.folds.switches (engine - 1) d there)

  module _ (s : SwitchState) (is : IsSwitchOf setup old.book engine s) where
    switch_at : (k : ℕ) (d : SwitchState) → k < length old.switches.items → IsSwitchOf setup old.book (suc k) (slice_index_or (slice_set old.switches.items (engine - 1) s) k d)
    switch_at k d lt = at (eqb k (engine - 1)) refl
      where
        at : (t : Bool) → eqb k (engine - 1) ≡ t → IsSwitchOf setup old.book (suc k) (slice_index_or (slice_set old.switches.items (engine - 1) s) k d)
        at true e =
            let same : k ≡ engine - 1 = eqb-true k (engine - 1) e in
            let index : engine ≡ suc k = omega (arith, one, same) in
            let here : slice_index_or (slice_set old.switches.items (engine - 1) s) k d ≡ s =
            ap (λ j. slice_index_or (slice_set old.switches.items (engine - 1) s) j d) same ∙ get_or-set_same old.switches.items (engine - 1) s d there in
            subst (IsSwitchOf setup old.book (suc k)) (sym here) (subst (λ n. IsSwitchOf setup old.book n s) index is)
        at false e = subst (IsSwitchOf setup old.book (suc k)) (sym (get_or-set_other old.switches.items (engine - 1) k s d (eqb-false k (engine - 1) e))) (are.stand.folds.switches k d lt)

    module _ (new : Parts) (book : new.book ≡ old.book) (store : new.store ≡ old.store) (queues : new.queues ≡ old.queues) (txns : new.txns ≡ old.txns)
        (views : new.switches.items ≡ slice_set old.switches.items (engine - 1) s) (first : new.first ≡ old.first) (newer : new.newer ≡ old.newer) where
      pub advanced_are : PartsAreOf setup fs m new
      advanced_are =
          are_after setup fs m new are.kept
          (subst (IsBookOf m) (sym book) are.book)
          (subst (λ (b : BookState). HasReplicas setup b.counts) (sym book) are.replicas)
          (subst Sound (sym book) are.stand.kept.sound)
          (record {
            shards = ap (λ (b : BookState). length b.shards) book ∙ are.stand.sizes.shards;
            engines = ap (λ (b : BookState). length b.positions) book ∙ are.stand.sizes.engines;
            queues = ap (λ q. length q.items) queues ∙ are.stand.sizes.queues;
            txns = ap (λ t. length t.items) txns ∙ are.stand.sizes.txns;
            switches = ap length views ∙ length-set old.switches.items (engine - 1) s ∙ are.stand.sizes.switches;
          })
          (record {
            queues =
                subst (λ q. AllByRecursion (λ kept. AreQueueFolds kept (live_bodies new.book)) q.items) (sym queues)
                (subst (λ (b : BookState). AllByRecursion (λ kept. AreQueueFolds kept (live_bodies b)) old.queues.items) (sym book) are.stand.folds.queues);
            txns =
                subst (λ t. AllByRecursion (λ kept. AreTxnFolds kept (live_bodies new.book)) t.items) (sym txns)
                (subst (λ (b : BookState). AllByRecursion (λ kept. AreTxnFolds kept (live_bodies b)) old.txns.items) (sym book) are.stand.folds.txns);
            switches = λ k d lt.
                subst (λ (b : BookState). IsSwitchOf setup b (suc k) (slice_index_or new.switches.items k d)) (sym book)
                (subst (λ (items : List SwitchState). IsSwitchOf setup old.book (suc k) (slice_index_or items k d)) (sym views)
                (switch_at k d (subst (λ (n : ℕ). k < n) (ap length views ∙ length-set old.switches.items (engine - 1) s) lt)));
          })
          (subst (λ (kept : StoreState). StandsFor kept m.store (live_records m)) (sym store) (store_stands setup fs m old are))
          (first ∙ are.stand.first) (newer ∙ are.stand.newer)

-- the first mode of the view that was there
pub first_of : (setup : Setup) (fs : List Function) (m : Machine) (parts : Parts) (are : PartsAreOf setup fs m parts) (engine : ℕ) → is_from_one_to setup.engines engine ≡ true
    → (s : SwitchState) → s ≡ slice_index_or parts.switches.items (engine - 1) s → s.first ≡ setup.mode
first_of setup fs m parts are engine ok s is =
    ap (λ (v : SwitchState). v.first) is ∙ (had setup fs m parts are engine (from_one setup fs m parts are engine ok) (slot_there setup fs m parts are engine ok) s).first

pub advanced :
    (old : Parts) (engine : ℕ) → HasEngine engine old.book → AreParts old → (was s : SwitchState) → was ≡ slice_index_or old.switches.items (engine - 1) was → s.first ≡ was.first → IsCurrent old.book engine s
    → (new : Parts) → new.book ≡ old.book → new.store ≡ old.store → new.queues ≡ old.queues → new.txns ≡ old.txns → new.switches.items ≡ slice_set old.switches.items (engine - 1) s → new.first ≡ old.first → new.newer ≡ old.newer
    → IsAdvanced engine old new
advanced old engine has some was s is first current new book store queues txns views same newer = record {
  book = book;
  store = store;
  are = λ setup fs m are.
      let there = has_slot setup fs m old are engine has in
      advanced_are setup fs m old are engine has.0 there s
      (record { first = first ∙ ap (λ (v : SwitchState). v.first) is ∙ (had setup fs m old are engine has.0 there was).first; follows = current.follows })
      new book store queues txns views same newer;
  current = λ d.
      let slot = has_slot some.setup some.functions some.machine old some.are engine has in
      subst (λ (b : BookState). IsCurrent b engine (slice_index_or new.switches.items (engine - 1) d)) (sym book)
      (subst (λ (items : List SwitchState). IsCurrent old.book engine (slice_index_or items (engine - 1) d)) (sym views)
      (subst (IsCurrent old.book engine) (sym (get_or-set_same old.switches.items (engine - 1) s d slot)) current));
}
