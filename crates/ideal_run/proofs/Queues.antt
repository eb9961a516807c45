-- A queue that is changed in place.
use Rattle.std.proofs.Common.{◌≡◌, ℕ, zero, suc, ◌≤◌, ◌+◌, ◌-◌, ◌<◌, ltb, Bool, true, false, cond, is_eq, List, [], ◌∷◌, ◌++◌, length, slice_get, Option, Some, None, unwrap_or, refl, sym, ap, ◌∙◌, arith}
use Rattle.std.specs.declared.cmp.Ordering.{Ordering}
use Rattle.std.specs.declared.cmp.Ordering.TheVariants.{Less, Equal, Greater}
use Rattle.std.specs.Map.{lookup, set_value, keys_of}
use Rattle.std.specs.BTreeMap.{is_at}
use Rattle.std.specs.List.Sorted.{IsStrictlySortedBy}
use Rattle.std.specs.FinMap.Entries.{by_order}
use Rattle.std.specs.Cmp.Lexicographic.{nat_list_cmp_total}
use Rattle.std.proofs.lemmas.Bool.Decides.{nat_tests}
use Rattle.std.proofs.lemmas.Map.{lookup-none}
use Rattle.std.proofs.lemmas.Map.Entries.{none_below_head}
use Rattle.std.proofs.lemmas.Map.Keys.{sorted_tail}
use Rattle.std.proofs.lemmas.Map.Steps.{set_value_same}
use Rattle.std.proofs.lemmas.Option.{slice_get_within, slice_get-get_or}
use Rattle.lb_base.specs.declared.value.Value.{Value}
use Rattle.lb_base.specs.declared.value.Value.TheVariants.{Nothing}
use Rattle.boki_model.specs.Maps.{key_order, get, put}
use Rattle.ideal_run.specs.declared.kept.Queue.{Queue}
use Rattle.ideal_run.specs.Kept.{queue_in, push_value, pop_front, front_value}
use Rattle.ideal_run.specs.Changes.{changed_at, but_last, unpushed, unpopped}
use Rattle.ideal_run.proofs.Entries.{get_is, changed_back, but_last_back}

-- past the end there is nothing
pub past : {V : Type 0} (xs : List V) (i : ℕ) → length xs ≤ i → slice_get xs i ≡ None
past [] i le = refl
past (x ∷ xs) zero le = absurd (let z : ⊥ = omega (arith, le) in z)
past (x ∷ xs) (suc i) le = past xs i (omega (arith, le))

-- a value that is set where the key is there is put
pub set_put : {V : Type 0} (k : List ℕ) (w v : V) (es : List (List ℕ × V)) → lookup (is_at (key_order k)) es ≡ Some v → IsStrictlySortedBy key_order (keys_of es)
    → set_value (is_at (key_order k)) es w ≡ put k w es
set_put k w v [] found sorted = absurd (let z : ⊥ = cc in z)
set_put {V} k w v (e ∷ es) found sorted = by (key_order k e.0) refl found (λ g. set_put k w v es g (sorted_tail key_order e.0 (keys_of es) sorted))
  where
    by : (o : Ordering) → key_order k e.0 ≡ o → cond (is_eq o) (Some e.1) (lookup (is_at (key_order k)) es) ≡ Some v
        → (lookup (is_at (key_order k)) es ≡ Some v → set_value (is_at (key_order k)) es w ≡ put k w es)
        → cond (is_eq o) ((e.0, w) ∷ es) (e ∷ set_value (is_at (key_order k)) es w) ≡ by_order o ((k, w) ∷ e ∷ es) ((e.0, w) ∷ es) (e ∷ put k w es)
    by Less is found ih =
        let none = lookup-none (is_at (key_order k)) (e ∷ es) (none_below_head nat_list_cmp_total k e es sorted is) in
        let some : cond (is_eq (key_order k e.0)) (Some e.1) (lookup (is_at (key_order k)) es) ≡ Some v = ap (λ o. cond (is_eq o) (Some e.1) (lookup (is_at (key_order k)) es)) is ∙ found in
        absurd (let z : ⊥ = cc in z)
    by Equal is found ih = refl
    by Greater is found ih = ap (λ (l : List (List ℕ × V)). let m : List (List ℕ × V) = e ∷ l in m) (ih found)

module _ (k : List ℕ) (q : Queue) (es : List (List ℕ × Queue)) (found : lookup (is_at (key_order k)) es ≡ Some q) where
  pub queue_is : queue_in k es ≡ q
  queue_is = ap (λ (o : Option Queue). unwrap_or o (record { values = []; front = 0 })) (get_is k es ∙ found)

  -- nothing is written
  pub unchanged : (new : List (List ℕ × Queue)) → new ≡ set_value (is_at (key_order k)) es q → new ≡ es
  unchanged new is = is ∙ set_value_same (is_at (key_order k)) es q found

  pub pushed_is : (v : Value) (vs : List Value) (new : List (List ℕ × Queue)) → IsStrictlySortedBy key_order (keys_of es) → vs ≡ q.values ++ v ∷ []
      → new ≡ set_value (is_at (key_order k)) es (record { values = vs; front = q.front }) → new ≡ put k (push_value (queue_in k es) v) es
  pushed_is v vs new sorted more is =
      is ∙ set_put k (record { values = vs; front = q.front }) q es found sorted
      ∙ ap (λ (x : List Value). let w : Queue = record { values = x; front = q.front } in put k w es) more
      ∙ ap (λ (x : Queue). put k (push_value x v) es) (sym queue_is)

  pub pushed_back : (v : Value) (vs : List Value) (new : List (List ℕ × Queue)) → vs ≡ q.values ++ v ∷ []
      → new ≡ set_value (is_at (key_order k)) es (record { values = vs; front = q.front }) → changed_at (is_at (key_order k)) unpushed new ≡ es
  pushed_back v vs new more is =
      ap (changed_at (is_at (key_order k)) unpushed) is
      ∙ changed_back (is_at (key_order k)) unpushed es q (record { values = vs; front = q.front }) found
      (ap (λ (x : List Value). let w : Queue = record { values = x; front = q.front } in w) (ap but_last more ∙ but_last_back q.values v))

  pub none_taken : slice_get q.values q.front ≡ None → (new : List (List ℕ × Queue)) → IsStrictlySortedBy key_order (keys_of es) → new ≡ set_value (is_at (key_order k)) es q
      → new ≡ put k (pop_front (queue_in k es)) es
  none_taken none new sorted is =
      is ∙ set_put k q q es found sorted
      ∙ ap (λ b. put k (cond b (record q { front = suc q.front }) q) es) (sym past)
      ∙ ap (λ (x : Queue). put k (pop_front x) es) (sym queue_is)
    where
      at : (b : Bool) → ltb q.front (length q.values) ≡ b → ltb q.front (length q.values) ≡ false
      at false e = e
      at true e = let inside : q.front < length q.values = grind (arith, nat_tests) in let some = slice_get-get_or q.values q.front Nothing inside in absurd (let z : ⊥ = cc in z)

      past : ltb q.front (length q.values) ≡ false
      past = at (ltb q.front (length q.values)) refl

  pub none_answered : slice_get q.values q.front ≡ None → Nothing ≡ front_value (queue_in k es)
  none_answered none = ap (λ (o : Option Value). unwrap_or o Nothing) (sym none) ∙ ap front_value (sym queue_is)

  pub one_answered : (v : Value) → slice_get q.values q.front ≡ Some v → v ≡ front_value (queue_in k es)
  one_answered v some = ap (λ (o : Option Value). unwrap_or o Nothing) (sym some) ∙ ap front_value (sym queue_is)

  pub popped_is : (v : Value) → slice_get q.values q.front ≡ Some v → (new : List (List ℕ × Queue)) → IsStrictlySortedBy key_order (keys_of es)
      → new ≡ set_value (is_at (key_order k)) es (record { values = q.values; front = q.front + 1 }) → new ≡ put k (pop_front (queue_in k es)) es
  popped_is v some new sorted is =
      is ∙ set_put k (record { values = q.values; front = q.front + 1 }) q es found sorted
      ∙ ap (λ (n : ℕ). let w : Queue = record { values = q.values; front = n } in put k w es) (let e : q.front + 1 ≡ suc q.front = omega arith in e)
      ∙ ap (λ b. put k (cond b (record q { front = suc q.front }) q) es) (sym inside)
      ∙ ap (λ (x : Queue). put k (pop_front x) es) (sym queue_is)
    where
      inside : ltb q.front (length q.values) ≡ true
      inside = let h : q.front < length q.values = slice_get_within q.values q.front v some in grind (arith, nat_tests)

  pub popped_back : (new : List (List ℕ × Queue)) → new ≡ set_value (is_at (key_order k)) es (record { values = q.values; front = q.front + 1 })
      → changed_at (is_at (key_order k)) unpopped new ≡ es
  popped_back new is =
      ap (changed_at (is_at (key_order k)) unpopped) is
      ∙ changed_back (is_at (key_order k)) unpopped es q (record { values = q.values; front = q.front + 1 }) found
      (ap (λ (n : ℕ). let w : Queue = record { values = q.values; front = n } in w) (let e : (q.front + 1) - 1 ≡ q.front = omega arith in e))

-- where the look-up finds nothing, under a name that is the same
pub absent : {V : Type 0} (k name : List ℕ) (es new : List (List ℕ × V)) → name ≡ k → new ≡ es → lookup (is_at (key_order k)) es ≡ None → get name new ≡ None
absent k name es new same stay none = ap (λ (x : List ℕ). get x new) same ∙ ap (get k) stay ∙ get_is k es ∙ none
