-- The number of named values that are kept.
use Rattle.std.proofs.Common.{◌≡◌, ℕ, suc, eqb, Bool, true, false, cond, not, ◌&&◌, List, [], ◌∷◌, length, bytes_eq, Option, Some, None, refl, sym, ap, ◌∙◌, arith}
use Rattle.std.specs.List.{IsDistinct, AllByRecursion}
use Rattle.std.specs.Map.{lookup, keys_of}
use Rattle.std.specs.Cmp.{IsEquivalence, nat_eq_equiv}
use Rattle.std.specs.Cmp.Lexicographic.{nat_list_eq_equiv}
use Rattle.indexmap.specs.Layout.{hash_map}
use Rattle.std.proofs.lemmas.Map.{NonePasses, none_passes_from_lookup}
use Rattle.std.proofs.lemmas.Map.Keys.{IsDistinct-cons, IsDistinct-from_apart}
use Rattle.std.proofs.lemmas.Map.Lookups.{hash_map_len_from_get}
use Rattle.lb_base.specs.declared.value.Value.{Value}
use Rattle.boki_types.specs.declared.body.Body.{Body}
use Rattle.boki_types.specs.declared.store.Name.{Name}
use Rattle.boki_model.specs.Live.{Live}
use Rattle.boki_model.specs.Writes.{NamedValue, Store, value_under_name, same_name, is_settled, unsettled_values}
use Rattle.obj_store.specs.Kept.{StoreState, same_name_pair}
use Rattle.obj_store.specs.StandsFor.{StandsFor, NamesDiffer}
use Rattle.obj_store.proofs.Fences.{same_name_is}

abbrev pub entries_of : List NamedValue → List ((List ℕ × ℕ) × Value)
entries_of [] = []
entries_of (s ∷ ss) = ((s.name.path, s.name.place), s.value) ∷ entries_of ss

length_entries : (ss : List NamedValue) → length (entries_of ss) ≡ length ss
length_entries [] = refl
length_entries (s ∷ ss) = ap suc (length_entries ss)

find_entries : (q : List ℕ × ℕ) (ss : List NamedValue) → lookup (same_name_pair q) (entries_of ss) ≡ value_under_name (record { path = q.0; place = q.1 }) ss
find_entries q [] = refl
find_entries q (s ∷ ss) = ap (λ (o : Option Value). cond (same_name_pair q (s.name.path, s.name.place)) (Some s.value) o) (find_entries q ss)

name_laws : IsEquivalence same_name_pair
name_laws = record {
  refl = λ x. ap (λ b. b && eqb x.1 x.1) (nat_list_eq_equiv.refl x.0) ∙ nat_eq_equiv.refl x.1;
  symm = λ x y. ap (λ b. b && eqb x.1 y.1) (nat_list_eq_equiv.symm x.0 y.0) ∙ ap (λ b. bytes_eq y.0 x.0 && b) (nat_eq_equiv.symm x.1 y.1);
  congr = λ x y z e. let s = same_name_is (record { path = x.0; place = x.1 }) (record { path = y.0; place = y.1 }) e in ap (λ (n : Name). same_name_pair (n.path, n.place) z) s;
}

-- the unsettled ones
unsettled_value : (q : Name) (f : ℕ) (records : List (Live Body)) (ss : List NamedValue) → value_under_name q (unsettled_values f records ss) ≡ cond (is_settled q f records) None (value_under_name q ss)
unsettled_value q f records [] = by (is_settled q f records)
  where
    by : (b : Bool) → None ≡ cond {A = Option Value} b None None
    by true = refl
    by false = refl
unsettled_value q f records (s ∷ ss) = by (is_settled s.name f records) (same_name q s.name) refl refl (unsettled_value q f records ss)
  where
    by : (p r : Bool) → is_settled s.name f records ≡ p → same_name q s.name ≡ r → value_under_name q (unsettled_values f records ss) ≡ cond (is_settled q f records) None (value_under_name q ss)
        → value_under_name q (cond (not p) (s ∷ unsettled_values f records ss) (unsettled_values f records ss)) ≡ cond (is_settled q f records) None (cond r (Some s.value) (value_under_name q ss))
    by true false e h ih = ih
    by true true e h ih =
        ih ∙ ap (λ b. cond b None (value_under_name q ss)) settled ∙ sym (ap (λ b. cond b None (Some s.value)) settled)
      where
        settled : is_settled q f records ≡ true
        settled = ap (λ (n : Name). is_settled n f records) (same_name_is q s.name h) ∙ e
    by false true e h ih =
        ap (λ b. cond b (Some s.value) (value_under_name q (unsettled_values f records ss))) h
        ∙ sym (ap (λ b. cond b None (Some s.value)) (ap (λ (n : Name). is_settled n f records) (same_name_is q s.name h) ∙ e))
    by false false e h ih = ap (λ b. cond b (Some s.value) (value_under_name q (unsettled_values f records ss))) h ∙ ih

none_of_none : (f : Bool) (o : Option Value) → o ≡ None → cond f None o ≡ None
none_of_none true o e = refl
none_of_none false o e = e

differ : (f : ℕ) (records : List (Live Body)) (ss : List NamedValue) → NamesDiffer ss → IsDistinct same_name_pair (keys_of (entries_of (unsettled_values f records ss)))
differ f records [] h = IsDistinct-from_apart same_name_pair [] (λ i j d lt end. absurd (let z : ⊥ = omega arith in z))
differ f records (s ∷ ss) h = by (is_settled s.name f records) (differ f records ss h.1)
  where
    passes : (es : List ((List ℕ × ℕ) × Value)) → NonePasses (same_name_pair (s.name.path, s.name.place)) es → AllByRecursion (λ y. same_name_pair (s.name.path, s.name.place) y ≡ false) (keys_of es)
    passes [] h = tt
    passes (e ∷ es) h = (h.0, passes es h.1)

    by : (p : Bool) → IsDistinct same_name_pair (keys_of (entries_of (unsettled_values f records ss))) → IsDistinct same_name_pair (keys_of (entries_of (cond (not p) (s ∷ unsettled_values f records ss) (unsettled_values f records ss))))
    by true ih = ih
    by false ih = IsDistinct-cons same_name_pair (s.name.path, s.name.place) (keys_of (entries_of (unsettled_values f records ss)))
        (passes (entries_of (unsettled_values f records ss)) (none_passes_from_lookup (same_name_pair (s.name.path, s.name.place)) (entries_of (unsettled_values f records ss))
        (find_entries (s.name.path, s.name.place) (unsettled_values f records ss) ∙ unsettled_value s.name f records ss ∙ none_of_none (is_settled s.name f records) (value_under_name s.name ss) h.0))) ih

module _ (kept : StoreState) (m : Store) (records : List (Live Body)) (stands : StandsFor kept m records) where
  pub names_count : length kept.named ≡ length (unsettled_values m.floor records m.named)
  names_count =
      hash_map_len_from_get name_laws {S = ℕ} {T = ℕ} (hash_map kept.named 0 0) (hash_map (entries_of (unsettled_values m.floor records m.named)) 0 0) stands.sound.names (differ m.floor records m.named stands.differ)
      (λ q. stands.named (record { path = q.0; place = q.1 }) ∙ sym (find_entries q (unsettled_values m.floor records m.named) ∙ unsettled_value (record { path = q.0; place = q.1 }) m.floor records m.named))
      ∙ length_entries (unsettled_values m.floor records m.named)
