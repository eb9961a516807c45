-- Maps whose values are changed, and what they answer.
use Rattle.std.proofs.Common.{◌≡◌, ℕ, Bool, true, false, cond, is_eq, ◌&&◌, List, [], ◌∷◌, Some, option_map, refl, ap, ◌∙◌}
use Rattle.std.specs.Prelude.{bytes_eq}
use Rattle.std.specs.declared.cmp.Ordering.{Ordering}
use Rattle.std.specs.declared.cmp.Ordering.TheVariants.{Less, Equal, Greater}
use Rattle.std.specs.Ordering.{is_lt}
use Rattle.std.specs.List.{AllByRecursion}
use Rattle.std.specs.List.Sorted.{IsStrictlySortedBy}
use Rattle.std.specs.Map.{keys_of}
use Rattle.std.specs.Cmp.Lexicographic.{nat_list_cmp_total, bytes_decides}
use Rattle.std.specs.FinMap.Entries.{by_order, find-put, below_all, is_sorted}
use Rattle.std.proofs.lemmas.Map.Text.{is_eq-slice_cmp}
use Rattle.boki_model.specs.Maps.{key_order, get, put}
use Rattle.boki_model.specs.MapLaws.{InOrder}
use Rattle.ideal_run.specs.Standing.{map_values}

pub same_itself : (k : List ℕ) → bytes_eq k k ≡ true
same_itself k = (bytes_decides k k).1 refl

pub same_key : (q k : List ℕ) → bytes_eq q k ≡ true → q ≡ k
same_key q k e = (bytes_decides q k).0 e

pub get-put : {V : Type 0} (q k : List ℕ) (v : V) (m : List (List ℕ × V)) → get q (put k v m) ≡ cond (bytes_eq q k) (Some v) (get q m)
get-put q k v m = find-put key_order nat_list_cmp_total q k v m ∙ ap (λ b. cond b (Some v) (get q m)) (is_eq-slice_cmp q k)

pub get_same : {V : Type 0} (k : List ℕ) (v : V) (m : List (List ℕ × V)) → get k (put k v m) ≡ Some v
get_same k v m = get-put k k v m ∙ ap (λ b. cond b (Some v) (get k m)) (same_itself k)

pub get_other : {V : Type 0} (q k : List ℕ) (v : V) (m : List (List ℕ × V)) → bytes_eq q k ≡ false → get q (put k v m) ≡ get q m
get_other q k v m e = get-put q k v m ∙ ap (λ b. cond b (Some v) (get q m)) e

module _ {V W : Type 0} (f : V → W) where
  pub each_put : (k : List ℕ) (v : V) (m : List (List ℕ × V)) → map_values f (put k v m) ≡ put k (f v) (map_values f m)
  each_put k v [] = refl
  each_put k v (e ∷ es) = by (key_order k e.0) (each_put k v es)
    where
      by : (o : Ordering) → map_values f (put k v es) ≡ put k (f v) (map_values f es)
          → map_values f (by_order o ((k, v) ∷ e ∷ es) ((e.0, v) ∷ es) (e ∷ put k v es))
          ≡ by_order o ((k, f v) ∷ (e.0, f e.1) ∷ map_values f es) ((e.0, f v) ∷ map_values f es) ((e.0, f e.1) ∷ put k (f v) (map_values f es))
      by Less ih = refl
      by Equal ih = refl
      by Greater ih = ap (λ (l : List (List ℕ × W)). let m : List (List ℕ × W) = (e.0, f e.1) ∷ l in m) ih

  pub each_get : (k : List ℕ) (m : List (List ℕ × V)) → get k (map_values f m) ≡ option_map f (get k m)
  each_get k [] = refl
  each_get k (e ∷ es) = by (is_eq (key_order k e.0)) (each_get k es)
    where
      by : (b : Bool) → get k (map_values f es) ≡ option_map f (get k es) → cond b (Some (f e.1)) (get k (map_values f es)) ≡ option_map f (cond b (Some e.1) (get k es))
      by true ih = refl
      by false ih = ih

  below_each : (k : List ℕ) (m : List (List ℕ × V)) → below_all key_order k (map_values f m) ≡ below_all key_order k m
  below_each k [] = refl
  below_each k (e ∷ es) = ap (λ b. is_lt (key_order k e.0) && b) (below_each k es)

  sorted_each : (m : List (List ℕ × V)) → is_sorted key_order (map_values f m) ≡ is_sorted key_order m
  sorted_each [] = refl
  sorted_each (e ∷ es) = ap (λ b. b && is_sorted key_order (map_values f es)) (below_each e.0 es) ∙ ap (λ b. below_all key_order e.0 es && b) (sorted_each es)

  pub each_in_order : (m : List (List ℕ × V)) → InOrder m → InOrder (map_values f m)
  each_in_order m h = sorted_each m ∙ h

-- keys that rise strictly are in order

below_is : {V : Type 0} (k : List ℕ) (es : List (List ℕ × V)) → AllByRecursion (λ y. key_order k y ≡ Less) (keys_of es) → below_all key_order k es ≡ true
below_is k [] h = refl
below_is k (e ∷ es) h = ap (λ o. is_lt o && below_all key_order k es) h.0 ∙ below_is k es h.1

pub in_order_is : {V : Type 0} (es : List (List ℕ × V)) → IsStrictlySortedBy key_order (keys_of es) → InOrder es
unfolding IsStrictlySortedBy
in_order_is [] h = refl
in_order_is (e ∷ es) h = ap (λ b. b && is_sorted key_order es) (below_is e.0 es h.0) ∙ in_order_is es h.1
