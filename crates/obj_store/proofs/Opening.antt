-- The objects of a store with initial objects.
use Rattle.std.proofs.Common.{◌≡◌, ℕ, zero, suc, ◌+◌, ◌<◌, Bool, true, false, cond, List, [], ◌∷◌, length, take, get_or, bytes_eq, Option, Some, None, option_map, refl, sym, ap, ◌∙◌, arith}
use Rattle.std.specs.List.{IsDistinct, AllByRecursion}
use Rattle.std.specs.Map.{lookup, keys_of}
use Rattle.std.specs.Cmp.Lexicographic.{nat_list_eq_equiv}
use Rattle.std.proofs.lemmas.Map.Keys.{apart_from_distinct, IsDistinct-tail, IsDistinct-cons, IsDistinct-from_apart}
use Rattle.std.proofs.lemmas.Map.{NonePasses, none_passes_from_lookup}
use Rattle.indexmap.specs.IndexMap.{insert_entry}
use Rattle.lb_base.specs.declared.value.Value.{Value}
use Rattle.std.specs.Option.{option_or}
use Rattle.obj_store.specs.Kept.{KeptObject, total, count_of}
use Rattle.obj_store.specs.StandsFor.{KeysDiffer}
use Rattle.obj_store.specs.Steps.{HoldsInitialObjects, opened}
use Rattle.obj_store.proofs.Entries.{same_key, absent_adds}

key_at : (vs : List (List ℕ × Value)) (i : ℕ) (d : List ℕ × Value) → i < length vs → get_or (keys_of vs) i d.0 ≡ (get_or vs i d).0
key_at [] i d lt = absurd (let h : ⊥ = omega arith in h)
key_at (v ∷ vs) zero d lt = refl
key_at (v ∷ vs) (suc i) d lt = key_at vs i d (omega arith)

keys_length : (vs : List (List ℕ × Value)) → length (keys_of vs) ≡ length vs
keys_length [] = refl
keys_length (v ∷ vs) = ap suc (keys_length vs)

pub distinct_keys : (vs : List (List ℕ × Value)) → KeysDiffer vs → IsDistinct bytes_eq (keys_of vs)
distinct_keys [] h = IsDistinct-from_apart bytes_eq [] (λ i j d lt end. absurd (let z : ⊥ = omega arith in z))
distinct_keys (v ∷ vs) h = IsDistinct-cons bytes_eq v.0 (keys_of vs) (passes vs (none_passes_from_lookup (bytes_eq v.0) vs h.0)) (distinct_keys vs h.1)
  where
    passes : (es : List (List ℕ × Value)) → NonePasses (bytes_eq v.0) es → AllByRecursion (λ y. bytes_eq v.0 y ≡ false) (keys_of es)
    passes [] h = tt
    passes (e ∷ es) h = (h.0, passes es h.1)

not_before : (vs : List (List ℕ × Value)) (i : ℕ) (d : List ℕ × Value) → IsDistinct bytes_eq (keys_of vs) → i < length vs → lookup (bytes_eq (get_or vs i d).0) (take i vs) ≡ None
not_before [] i d distinct lt = absurd (let h : ⊥ = omega arith in h)
not_before (v ∷ vs) zero d distinct lt = refl
not_before (v ∷ vs) (suc i) d distinct lt =
    ap (λ b. cond b (Some v.1) (lookup (bytes_eq (get_or vs i d).0) (take i vs)))
    (nat_list_eq_equiv.symm (get_or vs i d).0 v.0 ∙ ap (bytes_eq v.0) (sym (key_at vs i d (omega arith)))
    ∙ apart_from_distinct bytes_eq (keys_of (v ∷ vs)) 0 (suc i) d.0 distinct (omega arith) (omega (arith, keys_length vs)))
    ∙ not_before vs i d (IsDistinct-tail bytes_eq v.0 (keys_of vs) distinct) (omega arith)

found_more : (q : List ℕ) (vs : List (List ℕ × Value)) (i : ℕ) (d : List ℕ × Value) → i < length vs
    → lookup (bytes_eq q) (take (i + 1) vs) ≡ option_or (lookup (bytes_eq q) (take i vs)) (cond (bytes_eq q (get_or vs i d).0) (Some (get_or vs i d).1) None)
found_more q [] i d lt = absurd (let h : ⊥ = omega arith in h)
found_more q (v ∷ vs) zero d lt = refl
found_more q (v ∷ vs) (suc i) d lt =
    ap (λ (n : ℕ). lookup (bytes_eq q) (take n (v ∷ vs))) (let e : suc i + 1 ≡ suc (i + 1) = omega arith in e) ∙ by (bytes_eq q v.0) (found_more q vs i d (omega arith))
  where
    by : (b : Bool) → lookup (bytes_eq q) (take (i + 1) vs) ≡ option_or (lookup (bytes_eq q) (take i vs)) (cond (bytes_eq q (get_or vs i d).0) (Some (get_or vs i d).1) None)
        → cond b (Some v.1) (lookup (bytes_eq q) (take (i + 1) vs)) ≡ option_or (cond b (Some v.1) (lookup (bytes_eq q) (take i vs))) (cond (bytes_eq q (get_or vs i d).0) (Some (get_or vs i d).1) None)
    by true ih = refl
    by false ih = ih

pub opens_more : (vs : List (List ℕ × Value)) (i : ℕ) (d : List ℕ × Value) (key : List ℕ) (o : KeptObject) (es fs : List (List ℕ × KeptObject)) → i < length vs → IsDistinct bytes_eq (keys_of vs)
    → key ≡ (get_or vs i d).0 → o ≡ opened (get_or vs i d).1 → HoldsInitialObjects (take i vs) es → fs ≡ insert_entry bytes_eq es key o
    → ((q : List ℕ) → lookup (bytes_eq q) fs ≡ cond (bytes_eq key q) (Some o) (lookup (bytes_eq q) es)) → IsDistinct bytes_eq (keys_of fs) → HoldsInitialObjects (take (i + 1) vs) fs
opens_more vs i d key o es fs lt distinct is value opens set finds unique = record {
  finds = λ q. finds q ∙ ap (λ (r : Option KeptObject). cond (bytes_eq key q) (Some o) r) (opens.finds q) ∙ by q (bytes_eq key q) refl ∙ ap (option_map opened) (sym (found_more q vs i d lt));
  total = ap total set ∙ absent_adds key o es absent ∙ (let e = ap count_of value in let l = taken vs i lt in let t = opens.total in omega arith);
  distinct = unique;
}
  where
    taken : (vs : List (List ℕ × Value)) (i : ℕ) → i < length vs → length (take (i + 1) vs) ≡ length (take i vs) + 1
    taken [] i lt = absurd (let h : ⊥ = omega arith in h)
    taken (v ∷ vs) zero lt = omega arith
    taken (v ∷ vs) (suc i) lt = ap (λ (n : ℕ). length (take n (v ∷ vs))) (let e : suc i + 1 ≡ suc (i + 1) = omega arith in e) ∙ (let t = taken vs i (omega arith) in omega arith)

    none : lookup (bytes_eq key) (take i vs) ≡ None
    none = ap (λ (q : List ℕ). lookup (bytes_eq q) (take i vs)) is ∙ not_before vs i d distinct lt

    absent : lookup (bytes_eq key) es ≡ None
    absent = opens.finds key ∙ ap (option_map opened) none

    or_none : (r : Option Value) → option_or r None ≡ r
    or_none None = refl
    or_none (Some v) = refl

    by : (q : List ℕ) (b : Bool) → bytes_eq key q ≡ b
        → cond b (Some o) (option_map opened (lookup (bytes_eq q) (take i vs))) ≡ option_map opened (option_or (lookup (bytes_eq q) (take i vs)) (cond (bytes_eq q (get_or vs i d).0) (Some (get_or vs i d).1) None))
    by q true e =
        ap Some value
        ∙ sym (ap (λ (r : Option Value). option_map opened (option_or r (cond (bytes_eq q (get_or vs i d).0) (Some (get_or vs i d).1) None))) (ap (λ (k : List ℕ). lookup (bytes_eq k) (take i vs)) (sym (same_key key q e)) ∙ none)
        ∙ ap (λ b. option_map opened (cond b (Some (get_or vs i d).1) None)) (nat_list_eq_equiv.symm q (get_or vs i d).0 ∙ ap (λ (k : List ℕ). bytes_eq k q) (sym is) ∙ e))
    by q false e =
        ap (option_map opened) (sym (or_none (lookup (bytes_eq q) (take i vs))))
        ∙ ap (λ b. option_map opened (option_or (lookup (bytes_eq q) (take i vs)) (cond b (Some (get_or vs i d).1) None))) (sym (nat_list_eq_equiv.symm q (get_or vs i d).0 ∙ ap (λ (k : List ℕ). bytes_eq k q) (sym is) ∙ e))
