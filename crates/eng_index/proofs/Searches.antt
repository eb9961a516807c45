-- What a search of an ascending list finds, as the first that passes a test.
use Rattle.std.proofs.Common.{◌≡◌, ℕ, zero, suc, ◌-◌, ◌<◌, ◌≤◌, ltb, leb, Bool, true, false, cond, List, [], ◌∷◌, length, reverse, get_or, find, slice_get, Option, Some, None, refl, sym, ap, ◌∙◌, arith}
use Rattle.std.specs.Option.{option_or}
use Rattle.std.specs.List.Sorted.{IsPartitionPoint}
use Rattle.std.proofs.lemmas.List.Folds.{find-append}
use Rattle.std.proofs.lemmas.Bool.Decides.{nat_tests}
use mathlib.Core.List.{reverse-cons}

-- the test answers so for each below a place, and so for each from it on
abbrev IsBelow : (ℕ → Bool) → Bool → List ℕ → ℕ → Type 0
IsBelow q b xs i = (k d : ℕ) → k < i → q (get_or xs k d) ≡ b

abbrev IsFrom : (ℕ → Bool) → Bool → List ℕ → ℕ → Type 0
IsFrom q b xs i = (k d : ℕ) → i ≤ k → k < length xs → q (get_or xs k d) ≡ b

rest_below : (q : ℕ → Bool) (b : Bool) (x : ℕ) (xs : List ℕ) (i : ℕ) → IsBelow q b (x ∷ xs) (suc i) → IsBelow q b xs i
rest_below q b x xs i low = λ k d lt. low (suc k) d (omega arith)

rest_from : (q : ℕ → Bool) (b : Bool) (x : ℕ) (xs : List ℕ) (i j : ℕ) → IsFrom q b (x ∷ xs) j → j ≤ suc i → IsFrom q b xs i
rest_from q b x xs i j high le = λ k d from lt. high (suc k) d (omega arith) (omega arith)

none_below : (q : ℕ → Bool) (b : Bool) (xs : List ℕ) → IsBelow q b xs 0
none_below q b xs = λ k d lt. absurd (let h : ⊥ = omega arith in h)

find_at_point : (q : ℕ → Bool) (xs : List ℕ) (i : ℕ) → i ≤ length xs → IsBelow q false xs i → IsFrom q true xs i → find q xs ≡ slice_get xs i
find_at_point q [] i le low high = refl
find_at_point q (x ∷ xs) zero le low high = ap (λ b. cond b (Some x) (find q xs)) (high 0 0 (omega arith) (omega arith))
find_at_point q (x ∷ xs) (suc i) le low high =
    ap (λ b. cond b (Some x) (find q xs)) (low 0 0 (omega arith))
    ∙ find_at_point q xs i (omega arith) (rest_below q false x xs i low) (rest_from q true x xs i (suc i) high (omega arith))

some_at : (xs : List ℕ) (i : ℕ) → i < length xs → (x : ℕ) × (slice_get xs i ≡ Some x)
some_at [] i lt = absurd (let h : ⊥ = omega arith in h)
some_at (x ∷ xs) zero lt = (x, refl)
some_at (x ∷ xs) (suc i) lt = some_at xs i (omega arith)

-- what stands before a place
abbrev pub before : ℕ → List ℕ → Option ℕ
before zero xs = None
before (suc i) xs = slice_get xs i

find_before_point : (q : ℕ → Bool) (xs : List ℕ) (i : ℕ) → i ≤ length xs → IsBelow q true xs i → IsFrom q false xs i → find q (reverse xs) ≡ before i xs
find_before_point q [] zero le low high = refl
find_before_point q [] (suc i) le low high = refl
find_before_point q (x ∷ xs) i le low high = ap (find q) (reverse-cons x xs) ∙ find-append q (reverse xs) (x ∷ []) ∙ at (find_before_point q xs) i le low high
  where
    at : ((i : ℕ) → i ≤ length xs → IsBelow q true xs i → IsFrom q false xs i → find q (reverse xs) ≡ before i xs) → (i : ℕ) → i ≤ suc (length xs) → IsBelow q true (x ∷ xs) i → IsFrom q false (x ∷ xs) i
        → option_or (find q (reverse xs)) (cond (q x) (Some x) None) ≡ before i (x ∷ xs)
    at ih zero le low high =
        ap (λ b. option_or (find q (reverse xs)) (cond b (Some x) None)) (high 0 0 (omega arith) (omega arith))
        ∙ ap (λ o. option_or o None) (ih 0 (omega arith) (none_below q true xs) (rest_from q false x xs 0 0 high (omega arith)))
    at ih (suc zero) le low high =
        ap (λ b. option_or (find q (reverse xs)) (cond b (Some x) None)) (low 0 0 (omega arith))
        ∙ ap (λ o. option_or o (Some x)) (ih 0 (omega arith) (none_below q true xs) (rest_from q false x xs 0 1 high (omega arith)))
    at ih (suc (suc j)) le low high =
        let here = some_at xs j (omega arith) in
        ap (λ o. option_or o (cond (q x) (Some x) None)) (ih (suc j) (omega arith) (rest_below q true x xs (suc j) low) (rest_from q false x xs (suc j) (suc (suc j)) high (omega arith)) ∙ here.1)
        ∙ sym here.1

pub before_is : (i : ℕ) (xs : List ℕ) → 0 < i → before i xs ≡ slice_get xs (i - 1)
before_is zero xs lt = absurd (let h : ⊥ = omega arith in h)
before_is (suc i) xs lt = ap (slice_get xs) (let e : i ≡ suc i - 1 = omega arith in e)

-- tests of order, as a search and a read ask them

not_below : (a x : ℕ) → ltb x a ≡ false → leb a x ≡ true
not_below a x e = grind (arith, nat_tests)

not_from : (a x : ℕ) → ltb x a ≡ true → leb a x ≡ false
not_from a x e = grind (arith, nat_tests)

-- what a binary search answers

pub found_from : (a : ℕ) (xs : List ℕ) (i : ℕ) → i ≤ length xs → IsPartitionPoint (λ y. ltb y a ≡ true) (λ y. ltb y a ≡ false) xs i → find (leb a) xs ≡ slice_get xs i
found_from a xs i le point = find_at_point (leb a) xs i le (λ k d lt. not_from a _ (point.0 k d (omega arith) lt)) (λ k d from lt. not_below a _ (point.1 k d from lt))

pub found_before : (b : ℕ) (xs : List ℕ) (i : ℕ) → i ≤ length xs → IsPartitionPoint (λ y. leb y b ≡ true) (λ y. leb y b ≡ false) xs i → find (λ y. leb y b) (reverse xs) ≡ before i xs
found_before b xs i le point = find_before_point (λ y. leb y b) xs i le (λ k d lt. point.0 k d (omega arith) lt) (λ k d from lt. point.1 k d from lt)
