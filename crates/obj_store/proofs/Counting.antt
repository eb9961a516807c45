-- How many writes and versions an object store keeps, where it stands for a store.
use Rattle.std.proofs.Common.{◌≡◌, ℕ, ◌+◌, Bool, true, false, cond, List, [], ◌∷◌, sum_by, bytes_eq, Some, None, is_some, unwrap_or, refl, sym, ap, ◌∙◌, arith}
use Rattle.std.specs.List.{IsDistinct}
use Rattle.std.specs.Map.{lookup, keys_of, values_of}
use Rattle.std.specs.Cmp.Lexicographic.{nat_list_eq_equiv}
use Rattle.std.proofs.lemmas.List.Sums.{sum_by-cons}
use Rattle.std.proofs.lemmas.Map.{lookup-none}
use Rattle.std.proofs.lemmas.Map.Entries.{none_past_head}
use Rattle.std.proofs.lemmas.Map.Keys.{IsDistinct-tail}
use Rattle.obj_store.specs.Kept.{KeptObject, empty_object, object_in, has_key}
use Rattle.obj_store.proofs.Entries.{key_itself}

-- the sum of a number for each key
abbrev pub key_sum : (List ℕ → ℕ) → List (List ℕ × KeptObject) → ℕ
key_sum f [] = 0
key_sum f (e ∷ es) = f e.0 + key_sum f es

pub key_sum_same : (f g : List ℕ → ℕ) (es : List (List ℕ × KeptObject)) → ((k : List ℕ) → f k ≡ g k) → key_sum f es ≡ key_sum g es
key_sum_same f g [] h = refl
key_sum_same f g (e ∷ es) h = omega (arith, h e.0, key_sum_same f g es h)

pub key_sum_zero : (es : List (List ℕ × KeptObject)) → key_sum (λ k. 0) es ≡ 0
key_sum_zero [] = refl
key_sum_zero (e ∷ es) = let h = key_sum_zero es in omega arith

pub key_sum_plus : (f g : List ℕ → ℕ) (es : List (List ℕ × KeptObject)) → key_sum (λ k. f k + g k) es ≡ key_sum f es + key_sum g es
key_sum_plus f g [] = refl
key_sum_plus f g (e ∷ es) = omega (arith, key_sum_plus f g es)

-- where a key has no entry, and where it has one

abbrev pub one_at : List ℕ → List ℕ → ℕ
one_at key k = cond (bytes_eq key k) 1 0

one_absent : (key : List ℕ) (es : List (List ℕ × KeptObject)) → lookup (bytes_eq key) es ≡ None → key_sum (one_at key) es ≡ 0
one_absent key [] none = refl
one_absent key (e ∷ es) none = by (bytes_eq key e.0) none (one_absent key es)
  where
    by : (b : Bool) → cond b (Some e.1) (lookup (bytes_eq key) es) ≡ None → (lookup (bytes_eq key) es ≡ None → key_sum (one_at key) es ≡ 0) → cond b 1 0 + key_sum (one_at key) es ≡ 0
    by true none ih = absurd (let z : ⊥ = cc in z)
    by false none ih = let h = ih none in omega arith

pub one_there : (key : List ℕ) (es : List (List ℕ × KeptObject)) → IsDistinct bytes_eq (keys_of es) → has_key key es ≡ true → key_sum (one_at key) es ≡ 1
one_there key [] distinct has = absurd (let z : ⊥ = cc in z)
one_there key (e ∷ es) distinct has = by (bytes_eq key e.0) refl has (one_there key es (IsDistinct-tail bytes_eq e.0 (keys_of es) distinct))
  where
    by : (b : Bool) → bytes_eq key e.0 ≡ b → is_some (cond b (Some e.1) (lookup (bytes_eq key) es)) ≡ true → (has_key key es ≡ true → key_sum (one_at key) es ≡ 1) → cond b 1 0 + key_sum (one_at key) es ≡ 1
    by true is has ih =
        let h = one_absent key es (lookup-none (bytes_eq key) es (none_past_head nat_list_eq_equiv key e es distinct is)) in omega arith
    by false is has ih = let h = ih has in omega arith

-- the sum over the objects, each with what its key says
pub sum_by_keys : (f : KeptObject → ℕ) (g : List ℕ → ℕ) (es : List (List ℕ × KeptObject)) → IsDistinct bytes_eq (keys_of es) → ((k : List ℕ) → has_key k es ≡ true → f (object_in k es) ≡ g k) → sum_by f (values_of es) ≡ key_sum g es
sum_by_keys f g [] distinct h = refl
sum_by_keys f g (e ∷ es) distinct h =
    sum_by-cons f e.1 (values_of es)
    ∙ (let here : f e.1 ≡ g e.0 = ap (λ b. f (unwrap_or (cond b (Some e.1) (lookup (bytes_eq e.0) es)) empty_object)) (sym (key_itself e.0))
    ∙ h e.0 (ap (λ b. is_some (cond b (Some e.1) (lookup (bytes_eq e.0) es))) (key_itself e.0)) in
    let rest = sum_by_keys f g es (IsDistinct-tail bytes_eq e.0 (keys_of es) distinct) later in omega arith)
  where
    later : (k : List ℕ) → has_key k es ≡ true → f (object_in k es) ≡ g k
    later k has = by (bytes_eq k e.0) refl
      where
        by : (b : Bool) → bytes_eq k e.0 ≡ b → f (object_in k es) ≡ g k
        by true is =
            let none = lookup-none (bytes_eq k) es (none_past_head nat_list_eq_equiv k e es distinct is) in
            absurd (let n : true ≡ false = sym has ∙ ap is_some none in let z : ⊥ = cc in z)
        by false is =
            ap (λ b. f (unwrap_or (cond b (Some e.1) (lookup (bytes_eq k) es)) empty_object)) (sym is)
            ∙ h k (ap (λ b. is_some (cond b (Some e.1) (lookup (bytes_eq k) es))) is ∙ has)
