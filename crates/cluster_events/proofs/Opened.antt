-- A new book, a new store and new caches are those of the initial machine.
use Rattle.std.proofs.Common.{◌≡◌, ◌∙◌, ℕ, zero, suc, ◌+◌, ◌-◌, ◌<◌, ◌&&◌, ◌||◌, ◌++◌, length-append, not, Bool, true, false, cond, List, [], ◌∷◌, length, map, replicate, Some, None, All, refl, sym, ap, subst}
use Rattle.std.specs.Prelude.{slice_index_or, bytes_eq, nat_le}
use Rattle.std.specs.List.{AllByRecursion, list_all}
use Rattle.std.specs.Map.{lookup}
use Rattle.std.proofs.lemmas.Bool.{and_parts}
use Rattle.std.proofs.lemmas.List.Elements.{All-push}
use Rattle.lb_base.specs.declared.value.Value.{Value}
use Rattle.boki_types.specs.declared.body.Body.{Body}
use Rattle.boki_types.specs.declared.plan.Plan.{Plan}
use Rattle.boki_model.specs.Live.{LogRecord, Live}
use Rattle.boki_model.specs.LogLaws.{FallBelow}
use Rattle.boki_model.specs.Maps.{has}
use Rattle.boki_model.specs.Plans.{is_plan, is_setup, are_objects, is_program, is_item, total_events, distinct}
use Rattle.boki_model.specs.Bodies.{is_name, is_value}
use Rattle.boki_model.specs.declared.limits.TheConstants.{MAX_EVENTS}
use Rattle.boki_model.specs.Writes.{initial_store}
use Rattle.boki_machine.specs.Machine.{initial_machine}
use Rattle.log_folds.specs.Decoded.{decoded_record}
use Rattle.obj_store.specs.StandsFor.{StandsFor, KeysDiffer}
use Rattle.script_ranges.specs.Asks.{AreFunctions}
use Rattle.book_api.specs.Books.{BookState, new_book}
use Rattle.step_log.specs.Sound.{body_of, live_bodies, IsSpelled, Sound}
use Rattle.step_laws.proofs.Kept.{initial_machine_is_kept}
use Rattle.boki_queue.specs.QueueStates.{AreQueueFolds}
use Rattle.boki_txn.specs.TxnStates.{AreTxnFolds}
use Rattle.hm_switch.specs.SwitchStates.{SwitchState, IsNew}
use Rattle.hm_switch.proofs.Going.{new_follows}
use Rattle.flow_parts.specs.declared.parts.Parts.{Parts}
use Rattle.flow_parts.specs.Parts.{IsSwitchOf}
use Rattle.cluster_events.specs.Machines.{IsBookOf, HasReplicas, PartsAreOf}
use Rattle.cluster_events.proofs.Done.{are_after}

all_replicated : {X : Type 0} (P : X → Type 0) (n : ℕ) (x : X) → P x → AllByRecursion P (replicate n x)
all_replicated P zero x p = tt
all_replicated P (suc n) x p = (p, all_replicated P n x p)

length-replicated : {X : Type 0} (n : ℕ) (x : X) → length (replicate n x) ≡ n
length-replicated zero x = refl
length-replicated (suc n) x = ap suc (length-replicated n x)

-- one more at the end
pub pushed : {X : Type 0} (P : X → Type 0) (xs ys : List X) (x : X) (n : ℕ) → ys ≡ xs ++ x ∷ [] → length xs ≡ n → All P xs → P x → (length ys ≡ n + 1) × All P ys
pushed P xs ys x n is long all p = (ap length is ∙ length-append xs (x ∷ []) ∙ ap (λ k. k + 1) long, subst (All P) (sym is) (All-push P xs x all p))

no_bodies : (n : ℕ) → replicate n [] ≡ map (map (decoded_record body_of)) (replicate n [])
no_bodies zero = refl
no_bodies (suc n) = ap (λ (l : List (List (LogRecord Body))). [] ∷ l) (no_bodies n)

-- no key stands twice
not_has : (key : List ℕ) (objects : List (List ℕ × Value)) → has key (map (λ o. o.0) objects) ≡ false → lookup (bytes_eq key) objects ≡ None
not_has key [] e = refl
not_has key (o ∷ os) e = at (not_has key os) (bytes_eq key o.0) e
  where
    at : (has key (map (λ o. o.0) os) ≡ false → lookup (bytes_eq key) os ≡ None) → (t : Bool) → (t || has key (map (λ o. o.0) os)) ≡ false → cond t (Some o.1) (lookup (bytes_eq key) os) ≡ None
    at ih true e = cc
    at ih false e = ih e

is_not : (b : Bool) → not b ≡ true → b ≡ false
is_not true e = cc
is_not false e = refl

keys_differ : (objects : List (List ℕ × Value)) → distinct (map (λ o. o.0) objects) ≡ true → KeysDiffer objects
keys_differ [] ok = tt
keys_differ (o ∷ os) ok =
    let parts = and_parts (not (has o.0 (map (λ o. o.0) os))) (distinct (map (λ o. o.0) os)) ok in
    (not_has o.0 os (is_not (has o.0 (map (λ o. o.0) os)) parts.0), keys_differ os parts.1)

module _ (plan : Plan) (ok : is_plan plan ≡ true) where
  parts_ok : ((is_setup plan.setup && are_objects plan.objects) ≡ true) × (is_program plan.program ≡ true)
  parts_ok =
      let fs = plan.program.functions in
      let all = and_parts (is_setup plan.setup && are_objects plan.objects && is_program plan.program && list_all (is_item plan.setup fs) plan.items) (nat_le (total_events plan.items) MAX_EVENTS) ok in
      let some = and_parts (is_setup plan.setup && are_objects plan.objects && is_program plan.program) (list_all (is_item plan.setup fs) plan.items) all.0 in
      and_parts (is_setup plan.setup && are_objects plan.objects) (is_program plan.program) some.0

  objects_ok : are_objects plan.objects ≡ true
  objects_ok = (and_parts (is_setup plan.setup) (are_objects plan.objects) parts_ok.0).1

  pub setup_ok : is_setup plan.setup ≡ true
  setup_ok = (and_parts (is_setup plan.setup) (are_objects plan.objects) parts_ok.0).0

  pub objects_differ : KeysDiffer plan.objects
  objects_differ = keys_differ plan.objects (and_parts (distinct (map (λ o. o.0) plan.objects)) (list_all (λ o. is_name o.0 && is_value o.1) plan.objects) objects_ok).0

  pub functions_ok : AreFunctions plan.program.functions
  functions_ok = parts_ok.1

  module _ (parts : Parts)
      (book : parts.book ≡ new_book plan.setup.shards plan.setup.replicas plan.setup.engines)
      (store : (end : ℕ) (records : List (Live Body)) → FallBelow end records → StandsFor parts.store (initial_store plan.objects) records)
      (queues : parts.queues.items ≡ replicate plan.setup.engines [])
      (txns : parts.txns.items ≡ replicate plan.setup.engines [])
      (switches : (length parts.switches.items ≡ plan.setup.engines) × All (IsNew plan.setup.mode) parts.switches.items)
      (first : parts.first ≡ plan.setup.mode) (newer : parts.newer ≡ plan.setup.newer) where
    abbrev new : BookState
    new = new_book plan.setup.shards plan.setup.replicas plan.setup.engines

    is_new_book : IsBookOf (initial_machine plan.setup plan.objects) new
    is_new_book = record { shards = no_bodies plan.setup.shards; counts = refl; vectors = refl; positions = refl; aux = refl }

    new_switch : (k : ℕ) (d : SwitchState) → k < length parts.switches.items → IsSwitchOf plan.setup parts.book (suc k) (slice_index_or parts.switches.items k d)
    new_switch k d lt =
        let is : IsNew plan.setup.mode (slice_index_or parts.switches.items k d) = switches.1 k d lt in
        record { first = is.first_is; follows = new_follows parts.book (suc k) plan.setup.mode (slice_index_or parts.switches.items k d) is }

    pub opened_are : PartsAreOf plan.setup plan.program.functions (initial_machine plan.setup plan.objects) parts
    opened_are =
        are_after plan.setup plan.program.functions (initial_machine plan.setup plan.objects) parts
        (initial_machine_is_kept plan.setup plan.program.functions plan.objects functions_ok objects_ok)
        (subst (IsBookOf (initial_machine plan.setup plan.objects)) (sym book) is_new_book)
        (subst (λ (b : BookState). HasReplicas plan.setup b.counts) (sym book)
        (record {
          shards = length-replicated plan.setup.shards (replicate (plan.setup.replicas - 1) 0);
          each = all_replicated (λ (c : List ℕ). length c ≡ plan.setup.replicas - 1) plan.setup.shards (replicate (plan.setup.replicas - 1) 0) (length-replicated (plan.setup.replicas - 1) 0);
        }))
        (subst Sound (sym book) (all_replicated (AllByRecursion IsSpelled) plan.setup.shards [] tt))
        (record {
          shards = ap (λ (b : BookState). length b.shards) book ∙ length-replicated plan.setup.shards [];
          engines = ap (λ (b : BookState). length b.positions) book ∙ length-replicated plan.setup.engines 0;
          queues = ap length queues ∙ length-replicated plan.setup.engines [];
          txns = ap length txns ∙ length-replicated plan.setup.engines [];
          switches = switches.0;
        })
        (record {
          queues = subst (AllByRecursion (λ kept. AreQueueFolds kept (live_bodies parts.book))) (sym queues) (all_replicated (λ kept. AreQueueFolds kept (live_bodies parts.book)) plan.setup.engines [] tt);
          txns = subst (AllByRecursion (λ kept. AreTxnFolds kept (live_bodies parts.book))) (sym txns) (all_replicated (λ kept. AreTxnFolds kept (live_bodies parts.book)) plan.setup.engines [] tt);
          switches = new_switch;
        })
        (store 0 [] tt) first newer
