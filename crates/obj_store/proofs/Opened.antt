-- A new object store stands for the opening store.
use Rattle.std.proofs.Common.{◌≡◌, ℕ, ltb, true, false, cond, ◌&&◌, ◌||◌, List, [], ◌∷◌, length, bytes_eq, Option, Some, None, option_map, unwrap_or, refl, sym, ap, ◌∙◌, arith}
use Rattle.std.specs.Map.{lookup}
use Rattle.std.proofs.lemmas.Map.Keys.{IsDistinct-from_apart}
use Rattle.std.proofs.lemmas.Map.Text.{is_eq-slice_cmp}
use Rattle.std.proofs.lemmas.Bool.Decides.{nat_tests}
use Rattle.lb_base.specs.declared.value.Value.{Value}
use Rattle.boki_types.specs.declared.body.Body.{Body}
use Rattle.boki_types.specs.declared.store.Name.{Name}
use Rattle.boki_model.specs.Live.{Live}
use Rattle.boki_model.specs.Maps.{get}
use Rattle.boki_model.specs.LogLaws.{FallBelow}
use Rattle.boki_model.specs.Writes.{NamedValue, Write, is_below, later_write, last_write_below, logged_writes, write_at, prepend_some, is_settled, logged_write, is_write_named, initial_store}
use Rattle.obj_store.specs.Kept.{KeptObject, empty_object, last_of_two, same_name_pair}
use Rattle.obj_store.specs.StandsFor.{StandsFor, kept_of, initial_write, HaveValues}
use Rattle.obj_store.specs.Steps.{HoldsInitialObjects, opened}
use Rattle.obj_store.proofs.Puts.{object_is}

get_is : (k : List ℕ) (vs : List (List ℕ × Value)) → get k vs ≡ lookup (bytes_eq k) vs
get_is k [] = refl
get_is k (v ∷ vs) = ap (λ b. cond b (Some v.1) (get k vs)) (is_eq-slice_cmp k v.0) ∙ ap (λ (o : Option Value). cond (bytes_eq k v.0) (Some v.1) o) (get_is k vs)

nothing : (ws : List Write) → last_write_below 0 0 ws ≡ None
nothing [] = refl
nothing (w ∷ ws) = ap (λ b. cond b (later_write w (last_write_below 0 0 ws)) (last_write_below 0 0 ws)) (let h : is_below w.first w.second 0 0 ≡ false = grind (arith, nat_tests) in h) ∙ nothing ws

none_settled : (q : Name) (xs : List (Live Body)) → is_settled q 0 xs ≡ false
none_settled q [] = refl
none_settled q (x ∷ xs) =
    ap (λ b. (b && is_write_named q (logged_write x.holds)) || is_settled q 0 xs) (let h : ltb x.seq 0 ≡ false = grind (arith, nat_tests) in h) ∙ none_settled q xs

none_valued : (named : List NamedValue) (xs : List (Live Body)) → HaveValues 0 named xs
none_valued named [] = tt
none_valued named (x ∷ xs) = (λ lt. absurd (let h : ⊥ = omega arith in h), none_valued named xs)

pub opens : (values : List (List ℕ × Value)) (es : List (List ℕ × KeptObject)) (end : ℕ) (records : List (Live Body)) → FallBelow end records → HoldsInitialObjects values es
    → StandsFor (record { objects = es; named = []; floor = 0; held = length values }) (initial_store values) records
opens values es end records fall h = record {
  floor = refl;
  objects = λ k. ap (λ (o : Option KeptObject). unwrap_or o empty_object) (h.finds k ∙ ap (option_map opened) (sym (get_is k values))) ∙ by k (get k values) refl;
  named = λ q. sym (ap (λ b. cond {A = Option Value} b None None) (none_settled q records));
  sound = record { keys = h.distinct; names = IsDistinct-from_apart same_name_pair [] (λ i j d lt end. absurd (let z : ⊥ = omega arith in z)); count = omega (arith, h.total) };
  numbered = tt;
  differ = tt;
  valued = none_valued [] records;
  end = end;
  falls = fall;
}
  where
    by : (k : List ℕ) (o : Option Value) → get k values ≡ o → unwrap_or (option_map opened o) empty_object ≡ kept_of k (initial_store values) records
    by k None e = object_is _ _ (sym (ap (λ (r : Option Write). last_of_two r (initial_write k values)) (nothing (logged_writes k [] records)) ∙ ap (λ (r : Option Value). last_write_below 1 0 (prepend_some (option_map (write_at 0 0) r) [])) e)) refl refl
    by k (Some v) e = object_is _ _ (sym (ap (λ (r : Option Write). last_of_two r (initial_write k values)) (nothing (logged_writes k [] records)) ∙ ap (λ (r : Option Value). last_write_below 1 0 (prepend_some (option_map (write_at 0 0) r) [])) e
        ∙ ap (λ b. cond b (Some (write_at 0 0 v)) None) (let t : is_below 0 0 1 0 ≡ true = grind (arith, nat_tests) in t))) refl refl
