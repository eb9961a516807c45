-- std's ordered maps as the definitions' maps.
use Rattle.std.proofs.Common.{◌≡◌, ℕ, true, false, cond, is_eq, List, [], ◌∷◌, ◌++◌, drop, Option, Some, None, is_some, unwrap_or, refl, sym, ap, ◌∙◌}
use Rattle.std.specs.declared.cmp.Ordering.{Ordering}
use Rattle.std.specs.declared.cmp.Ordering.TheVariants.{Less, Equal, Greater}
use Rattle.std.specs.Map.{lookup, set_value, keys_of}
use Rattle.std.specs.BTreeMap.{is_at, insert_entry}
use Rattle.std.specs.List.Sorted.{IsStrictlySortedBy}
use Rattle.std.specs.FinMap.Entries.{by_order}
use Rattle.std.specs.Cmp.Lexicographic.{nat_list_cmp_total}
use Rattle.std.proofs.lemmas.Map.{lookup-none}
use Rattle.std.proofs.lemmas.Map.Entries.{none_below_head}
use Rattle.std.proofs.lemmas.Map.Keys.{sorted_tail}
use Rattle.lb_base.specs.declared.value.Value.{Value}
use Rattle.lb_base.specs.declared.value.Outcome.{Outcome}
use Rattle.boki_model.specs.Maps.{key_order, get, put}
use Rattle.boki_model.specs.Folds.{queue_in, push_queue, pop_queue}
use Rattle.boki_machine.specs.Reports.{add_first_result}
use Rattle.boki_txn.proofs.Entries.{insert_is}

module _ {V : Type 0} where
  -- std's look-up is the definitions' get
  pub get_is : (k : List ℕ) (es : List (List ℕ × V)) → get k es ≡ lookup (is_at (key_order k)) es
  get_is k [] = refl
  get_is k (e ∷ es) = ap (λ o. cond (is_eq (key_order k e.0)) (Some e.1) o) (get_is k es)

  pub put_is : (k : List ℕ) (v : V) (es new : List (List ℕ × V)) → new ≡ insert_entry key_order es k v → new ≡ put k v es
  put_is k v es new is = is ∙ insert_is key_order k v es

  -- a value that is set where the key is there is put
  pub set_put : (k : List ℕ) (w v : V) (es : List (List ℕ × V)) → lookup (is_at (key_order k)) es ≡ Some v → IsStrictlySortedBy key_order (keys_of es)
      → set_value (is_at (key_order k)) es w ≡ put k w es
  set_put k w v [] found sorted = absurd (let z : ⊥ = cc in z)
  set_put k w v (e ∷ es) found sorted = by (key_order k e.0) refl found (λ g. set_put k w v es g (sorted_tail key_order e.0 (keys_of es) sorted))
    where
      by : (o : Ordering) → key_order k e.0 ≡ o → cond (is_eq o) (Some e.1) (lookup (is_at (key_order k)) es) ≡ Some v
          → (lookup (is_at (key_order k)) es ≡ Some v → set_value (is_at (key_order k)) es w ≡ put k w es)
          → cond (is_eq o) ((e.0, w) ∷ es) (e ∷ set_value (is_at (key_order k)) es w) ≡ by_order o ((k, w) ∷ e ∷ es) ((e.0, w) ∷ es) (e ∷ put k w es)
      by Less is found ih =
          let none = lookup-none (is_at (key_order k)) (e ∷ es) (none_below_head nat_list_cmp_total k e es sorted is) in
          let some : cond (is_eq (key_order k e.0)) (Some e.1) (lookup (is_at (key_order k)) es) ≡ Some v = ap (λ o. cond (is_eq o) (Some e.1) (lookup (is_at (key_order k)) es)) is ∙ found in
          absurd (let z : ⊥ = cc in z)
      by Equal is found ih = refl
      by Greater is found ih = ap (λ (l : List (List ℕ × V)). let m : List (List ℕ × V) = e ∷ l in m) (ih found)

-- the first result
none_of : {X : Type 0} (o : Option X) → is_some o ≡ false → o ≡ None
none_of None is = refl
none_of (Some x) is = cc

pub first_result : (k : List ℕ) (v : Outcome) (es new : List (List ℕ × Outcome)) → is_some (lookup (is_at (key_order k)) es) ≡ false
    → new ≡ insert_entry key_order es k v → new ≡ add_first_result k v es (get k es)
first_result k v es new none is = put_is k v es new is ∙ sym (ap (add_first_result k v es) (get_is k es ∙ none_of (lookup (is_at (key_order k)) es) none))

known_result : (k : List ℕ) (v : Outcome) (es : List (List ℕ × Outcome)) (o : Option Outcome) → is_some o ≡ true → es ≡ add_first_result k v es o
known_result k v es None is = cc
known_result k v es (Some w) is = refl

pub later_result : (k : List ℕ) (v : Outcome) (es : List (List ℕ × Outcome)) → is_some (lookup (is_at (key_order k)) es) ≡ true → es ≡ add_first_result k v es (get k es)
later_result k v es some = known_result k v es (get k es) (ap is_some (get_is k es) ∙ some)

-- queues
module _ (k : List ℕ) (es : List (List ℕ × List Value)) where
  module _ (q : List Value) (found : lookup (is_at (key_order k)) es ≡ Some q) (sorted : IsStrictlySortedBy key_order (keys_of es)) where
    queue_is : queue_in k es ≡ q
    queue_is = ap (λ (o : Option (List Value)). unwrap_or o []) (get_is k es ∙ found)

    pub pushed_is : (v : Value) (vs : List Value) (new : List (List ℕ × List Value)) → vs ≡ q ++ v ∷ []
        → new ≡ set_value (is_at (key_order k)) es vs → new ≡ push_queue k v es
    pushed_is v vs new more is =
        is ∙ set_put k vs q es found sorted ∙ ap (λ (x : List Value). put k x es) more ∙ ap (λ (x : List Value). put k (x ++ v ∷ []) es) (sym queue_is)

    pub popped_is : (vs : List Value) (new : List (List ℕ × List Value)) → vs ≡ drop 1 q
        → new ≡ set_value (is_at (key_order k)) es vs → new ≡ pop_queue k es
    popped_is vs new less is =
        is ∙ set_put k vs q es found sorted ∙ ap (λ (x : List Value). put k x es) less ∙ ap (λ (x : List Value). put k (drop 1 x) es) (sym queue_is)

  module _ (none : lookup (is_at (key_order k)) es ≡ None) where
    no_queue : queue_in k es ≡ []
    no_queue = ap (λ (o : Option (List Value)). unwrap_or o []) (get_is k es ∙ none)

    pub first_pushed : (v : Value) (vs : List Value) (mid new : List (List ℕ × List Value)) → vs ≡ v ∷ [] → mid ≡ es
        → new ≡ insert_entry key_order mid k vs → new ≡ push_queue k v es
    first_pushed v vs mid new one stay is =
        put_is k vs mid new is ∙ ap (put k vs) stay ∙ ap (λ (x : List Value). put k x es) one ∙ ap (λ (x : List Value). put k (x ++ v ∷ []) es) (sym no_queue)

    pub first_popped : (vs : List Value) (mid new : List (List ℕ × List Value)) → vs ≡ [] → mid ≡ es
        → new ≡ insert_entry key_order mid k vs → new ≡ pop_queue k es
    first_popped vs mid new empty stay is =
        put_is k vs mid new is ∙ ap (put k vs) stay ∙ ap (λ (x : List Value). put k x es) empty ∙ ap (λ (x : List Value). put k (drop 1 x) es) (sym no_queue)
