-- The parts of an engine that was restarted.
use Rattle.std.proofs.Common.{◌≡◌, ◌∙◌, ℕ, zero, suc, ◌-◌, ◌≤◌, ◌<◌, Bool, true, false, eqb, List, [], ◌∷◌, length, refl, sym, ap, subst, length-set, arith}
use Rattle.std.specs.Prelude.{slice_index_or, slice_set}
use Rattle.std.specs.List.{AllByRecursion}
use Rattle.std.proofs.lemmas.List.{get_or-set_same, get_or-set_other}
use Rattle.std.proofs.lemmas.Bool.{eqb-true, eqb-false}
use Rattle.boki_types.specs.declared.event.Event.TheVariants as event
use Rattle.boki_types.specs.declared.plan.Setup.{Setup}
use Rattle.boki_types.specs.declared.program.Function.{Function}
use Rattle.boki_model.specs.Plans.{is_event}
use Rattle.boki_machine.specs.Machine.{Machine, Aux, live_records, restart_engine}
use Rattle.exactly_once.proofs.Machines.EnginesStay.{seen_other}
use Rattle.book_api.specs.Books.{BookState, restarted}
use Rattle.step_log.specs.Sound.{live_bodies, Sound}
use Rattle.obj_store.specs.Kept.{StoreState}
use Rattle.obj_store.specs.StandsFor.{StandsFor}
use Rattle.boki_queue.specs.QueueStates.{AreQueueFolds}
use Rattle.boki_txn.specs.TxnStates.{AreTxnFolds}
use Rattle.hm_switch.specs.SwitchStates.{SwitchState, IsNew}
use Rattle.hm_switch.proofs.Going.{new_follows}
use Rattle.flow_parts.specs.declared.parts.Parts.{Parts}
use Rattle.flow_parts.specs.Parts.{IsSwitchOf}
use Rattle.cluster_events.specs.Machines.{IsBookOf, HasReplicas, PartsAreOf}
use Rattle.cluster_events.proofs.Done.{are_after, kept_after, store_stands}

all_set : {X : Type 0} (P : X → Type 0) (k : ℕ) (y : X) (xs : List X) → P y → AllByRecursion P xs → AllByRecursion P (slice_set xs k y)
all_set P k y [] p all = tt
all_set P zero y (x ∷ xs) p all = (p, all.1)
all_set P (suc k) y (x ∷ xs) p all = (all.0, all_set P k y xs p all.1)

module _ (setup : Setup) (fs : List Function) (m : Machine) (old : Parts) (are : PartsAreOf setup fs m old) (engine : ℕ)
    (valid : is_event setup fs (event.Restart engine) ≡ true) (there : engine - 1 < length old.switches.items) (s : SwitchState) (d : SwitchState)
    (new : IsNew (slice_index_or old.switches.items (engine - 1) d).first s) where
  abbrev pub b : BookState
  b = restarted engine old.book

  abbrev pub switches : List SwitchState
  switches = slice_set old.switches.items (engine - 1) s

  -- each engine's view is one of the restarted book
  switch_at : (k : ℕ) (e : SwitchState) → k < length old.switches.items → IsSwitchOf setup b (suc k) (slice_index_or switches k e)
  switch_at k e lt = at (eqb k (engine - 1)) refl
    where
      at : (t : Bool) → eqb k (engine - 1) ≡ t → IsSwitchOf setup b (suc k) (slice_index_or switches k e)
      at true is =
          let same : k ≡ engine - 1 = eqb-true k (engine - 1) is in
          let here : slice_index_or switches k e ≡ s = ap (λ j. slice_index_or switches j e) same ∙ get_or-set_same old.switches.items (engine - 1) s e there in
          subst (IsSwitchOf setup b (suc k)) (sym here) (record {
            first = new.first_is ∙ (are.stand.folds.switches (engine - 1) d there).first;
            follows = new_follows b (suc k) (slice_index_or old.switches.items (engine - 1) d).first s new;
          })
      at false is =
          let other = eqb-false k (engine - 1) is in
          let was = are.stand.folds.switches k e lt in
          let before : k ≡ suc k - 1 = omega arith in
          subst (IsSwitchOf setup b (suc k)) (sym (get_or-set_other old.switches.items (engine - 1) k s e other)) (record {
            first = was.first;
            follows = record {
              within = subst (λ n. (slice_index_or old.switches.items k e).position ≤ n) (sym (seen_other 0 (engine - 1) (suc k - 1) old.book.positions (λ same. other (before ∙ sym same)))) was.follows.within;
              fold = was.follows.fold;
            };
          })

  module _ (parts : Parts) (book : parts.book ≡ b) (store : parts.store ≡ old.store)
      (queues : parts.queues.items ≡ slice_set old.queues.items (engine - 1) []) (txns : parts.txns.items ≡ slice_set old.txns.items (engine - 1) [])
      (views : parts.switches.items ≡ switches) (first : parts.first ≡ old.first) (newer : parts.newer ≡ old.newer) where
    pub restarted_are : PartsAreOf setup fs (restart_engine engine m) parts
    restarted_are =
        are_after setup fs (restart_engine engine m) parts
        (kept_after setup fs m old are (event.Restart engine) (record { valid = valid; bytes = refl; text = tt }) tt)
        (subst (IsBookOf (restart_engine engine m)) (sym book) (record {
          shards = are.book.shards;
          counts = are.book.counts;
          vectors = are.book.vectors;
          positions = ap (λ (ps : List ℕ). slice_set ps (engine - 1) 0) are.book.positions;
          aux = ap (λ (aux : List (List Aux)). slice_set aux (engine - 1) []) are.book.aux;
        }))
        (subst (λ (b : BookState). HasReplicas setup b.counts) (sym book) are.replicas)
        (subst Sound (sym book) are.stand.kept.sound)
        (record {
          shards = ap (λ (b : BookState). length b.shards) book ∙ are.stand.sizes.shards;
          engines = ap (λ (b : BookState). length b.positions) book ∙ length-set old.book.positions (engine - 1) 0 ∙ are.stand.sizes.engines;
          queues = ap length queues ∙ length-set old.queues.items (engine - 1) [] ∙ are.stand.sizes.queues;
          txns = ap length txns ∙ length-set old.txns.items (engine - 1) [] ∙ are.stand.sizes.txns;
          switches = ap length views ∙ length-set old.switches.items (engine - 1) s ∙ are.stand.sizes.switches;
        })
        (record {
          queues =
              subst (λ (b : BookState). AllByRecursion (λ kept. AreQueueFolds kept (live_bodies b)) parts.queues.items) (sym book)
              (subst (AllByRecursion (λ kept. AreQueueFolds kept (live_bodies old.book))) (sym queues)
              (all_set (λ kept. AreQueueFolds kept (live_bodies old.book)) (engine - 1) [] old.queues.items tt are.stand.folds.queues));
          txns =
              subst (λ (b : BookState). AllByRecursion (λ kept. AreTxnFolds kept (live_bodies b)) parts.txns.items) (sym book)
              (subst (AllByRecursion (λ kept. AreTxnFolds kept (live_bodies old.book))) (sym txns)
              (all_set (λ kept. AreTxnFolds kept (live_bodies old.book)) (engine - 1) [] old.txns.items tt are.stand.folds.txns));
          switches = λ k e lt.
              subst (λ (b : BookState). IsSwitchOf setup b (suc k) (slice_index_or parts.switches.items k e)) (sym book)
              (subst (λ (items : List SwitchState). IsSwitchOf setup b (suc k) (slice_index_or items k e)) (sym views)
              (switch_at k e (subst (λ (n : ℕ). k < n) (ap length views ∙ length-set old.switches.items (engine - 1) s) lt)));
        })
        (subst (λ (kept : StoreState). StandsFor kept m.store (live_records m)) (sym store) (store_stands setup fs m old are))
        (first ∙ are.stand.first) (newer ∙ are.stand.newer)
