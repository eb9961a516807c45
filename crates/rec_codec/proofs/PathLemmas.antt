-- How large the numbers of a path are, and the path of a spawn.
use Rattle.std.proofs.Common.{◌≡◌, ℕ, zero, suc, ◌+◌, ◌^◌, ◌<◌, ◌≤◌, Bool, true, false, ◌&&◌, cond, ltb, List, [], ◌∷◌, ◌++◌, length, get_or, Option, Some, None, refl, sym, ap, ◌∙◌, arith}
use Rattle.std.proofs.lemmas.Bool.{and_parts, and_from, ltb-true, lt-ltb}
use Rattle.lb_base.specs.Path.{is_request, is_ordinal, are_ordinals, is_path, child_path}

-- the first is the number of a request
pub request_below : (p : List ℕ) → is_path p ≡ true → (get_or p 0 0 < 2 ^ 20) × (1 ≤ length p)
request_below [] h = absurd cc
request_below (n ∷ ns) h =
    let front = and_parts (is_request n && are_ordinals ns) (ltb (length ns) 4) h in
    let request = and_parts (is_request n) (are_ordinals ns) front.0 in
    let lt : n < 1048576 = ltb-true n 1048576 (and_parts (ltb 0 n) (ltb n 1048576) request.0).1 in
    (omega arith, omega arith)

ordinals_below : (ns : List ℕ) → are_ordinals ns ≡ true → (i : ℕ) → get_or ns i 0 < 4096
ordinals_below [] h i = omega arith
ordinals_below (n ∷ ns) h zero = ltb-true n 4096 (and_parts (ltb 0 n) (ltb n 4096) (and_parts (is_ordinal n) (are_ordinals ns) h).0).1
ordinals_below (n ∷ ns) h (suc i) = ordinals_below ns (and_parts (is_ordinal n) (are_ordinals ns) h).1 i

-- the others are ordinals
pub ordinal_below : (p : List ℕ) → is_path p ≡ true → (i : ℕ) → 1 ≤ i → get_or p i 0 < 2 ^ 12
ordinal_below [] h i le = absurd cc
ordinal_below (n ∷ ns) h zero le = absurd (omega arith)
ordinal_below (n ∷ ns) h (suc i) le =
    let front = and_parts (is_request n && are_ordinals ns) (ltb (length ns) 4) h in
    ordinals_below ns (and_parts (is_request n) (are_ordinals ns) front.0).1 i

-- a spawn of a path of at most three numbers has a path
pub child_is : (p : List ℕ) (n : ℕ) → length p ≤ 3 → is_ordinal n ≡ true → child_path p n ≡ Some (p ++ n ∷ [])
child_is p n le h =
    let both : (is_ordinal n && ltb (length p) 4) ≡ true = and_from (is_ordinal n) (ltb (length p) 4) h (lt-ltb (length p) 4 (omega arith)) in
    ap (λ (t : Bool). cond t (Some (p ++ n ∷ [])) None) both
