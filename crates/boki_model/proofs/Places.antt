-- Where ordered records stand: the place of a seqnum, and the seqnum of a place, entry by entry.
use Rattle.std.proofs.Common.{◌≡◌, ◌⊎◌, inl, inr, ℕ, zero, suc, ◌+◌, ◌-◌, ◌<◌, ◌≤◌, Bool, true, false, cond, ◌&&◌, eqb, List, [], ◌∷◌, ◌++◌, length, take, drop, reverse, Some, None, refl, sym, ap, ◌∙◌, arith}
use Rattle.std.proofs.lemmas.Bool.{eqb-true, eq-eqb, ne_eqb, cases_lt}
use Rattle.std.proofs.lemmas.Bool.Decides.{nat_tests}
use Rattle.std.proofs.lemmas.List.{length-append, length-take, length-drop}
use mathlib.Core.List.{reverse-cons}
use Rattle.boki_model.specs.Order.{records_between, locations_from, at_seq, seq_in}

-- What stands at a seqnum, in two lists joined.

same_test : (q n m : ℕ) → n < q → eqb q (suc (m + n)) ≡ eqb (q - n) (suc m)
same_test q n m lt = grind (arith, nat_tests)

module _ {A : Type 0} where
  pub at_seq_past : (q : ℕ) (xs : List A) → length xs < q → at_seq q xs ≡ None
  at_seq_past q [] lt = refl
  at_seq_past q (x ∷ xs) lt = rw (ne_eqb q (suc (length xs)) (λ e. omega arith)) (at_seq_past q xs (omega arith))

  pub at_seq_zero : (xs : List A) → at_seq 0 xs ≡ None
  at_seq_zero [] = refl
  at_seq_zero (x ∷ xs) = rw (ne_eqb 0 (suc (length xs)) (λ e. omega arith)) (at_seq_zero xs)

  pub at_seq_low : (q : ℕ) (xs ys : List A) → q ≤ length ys → at_seq q (xs ++ ys) ≡ at_seq q ys
  at_seq_low q [] ys le = refl
  at_seq_low q (x ∷ xs) ys le = rw (ne_eqb q (suc (length (xs ++ ys))) (λ e. omega (arith, length-append xs ys))) (at_seq_low q xs ys le)

  pub at_seq_high : (q : ℕ) (xs ys : List A) → length ys < q → at_seq q (xs ++ ys) ≡ at_seq (q - length ys) xs
  at_seq_high q [] ys lt = at_seq_past q ys lt
  at_seq_high q (x ∷ xs) ys lt =
      ap (λ n. cond (eqb q (suc n)) (Some x) (at_seq q (xs ++ ys))) (length-append xs ys)
      ∙ ap (λ t. cond t (Some x) (at_seq q (xs ++ ys))) (same_test q (length ys) (length xs) lt)
      ∙ ap (cond (eqb (q - length ys) (suc (length xs))) (Some x)) (at_seq_high q xs ys lt)

-- The seqnum of a place, in two lists joined.

abbrev is_place : ℕ → ℕ → ℕ × ℕ → Bool
is_place x l p = eqb x p.0 && eqb l p.1

pub seq_in_miss : (x l : ℕ) (xs ys : List (ℕ × ℕ)) → seq_in x l xs ≡ None → seq_in x l (xs ++ ys) ≡ seq_in x l ys
seq_in_miss x l [] ys none = refl
seq_in_miss x l (p ∷ ps) ys none = at (seq_in_miss x l ps ys) (is_place x l p) none
  where
    some_none : (q : ℕ) → Some q ≡ None → ⊥
    some_none q e = cc

    at : (seq_in x l ps ≡ None → seq_in x l (ps ++ ys) ≡ seq_in x l ys) → (t : Bool) → cond t (Some (suc (length ps))) (seq_in x l ps) ≡ None → cond t (Some (suc (length (ps ++ ys)))) (seq_in x l (ps ++ ys)) ≡ seq_in x l ys
    at ih true e = absurd (some_none (suc (length ps)) e)
    at ih false e = ih e

pub seq_in_hit : (x l q : ℕ) (xs ys : List (ℕ × ℕ)) → seq_in x l xs ≡ Some q → seq_in x l (xs ++ ys) ≡ Some (q + length ys)
seq_in_hit x l q [] ys found = cc
seq_in_hit x l q (p ∷ ps) ys found = at (seq_in_hit x l q ps ys) (is_place x l p) found
  where
    some_some : (a c : ℕ) → Some a ≡ Some c → a ≡ c
    some_some a c e = cc

    at : (seq_in x l ps ≡ Some q → seq_in x l (ps ++ ys) ≡ Some (q + length ys)) → (t : Bool) → cond t (Some (suc (length ps))) (seq_in x l ps) ≡ Some q → cond t (Some (suc (length (ps ++ ys)))) (seq_in x l (ps ++ ys)) ≡ Some (q + length ys)
    at ih true e = ap Some (let f : suc (length (ps ++ ys)) ≡ q + length ys = omega (arith, length-append ps ys, some_some (suc (length ps)) q e) in f)
    at ih false e = ih e

pub seq_in_most : (x l q : ℕ) (ps : List (ℕ × ℕ)) → seq_in x l ps ≡ Some q → q ≤ length ps
seq_in_most x l q [] found = cc
seq_in_most x l q (p ∷ ps) found = at (seq_in_most x l q ps) (is_place x l p) found
  where
    some_some : (a c : ℕ) → Some a ≡ Some c → a ≡ c
    some_some a c e = cc

    at : (seq_in x l ps ≡ Some q → q ≤ length ps) → (t : Bool) → cond t (Some (suc (length ps))) (seq_in x l ps) ≡ Some q → q ≤ suc (length ps)
    at ih true e = omega (arith, some_some (suc (length ps)) q e)
    at ih false e = omega (arith, ih e)

-- what has a seqnum stands at it
pub seq_in_located : (x l q : ℕ) (ps : List (ℕ × ℕ)) → seq_in x l ps ≡ Some q → at_seq q ps ≡ Some (x, l)
seq_in_located x l q [] found = cc
seq_in_located x l q (p ∷ ps) found = at (seq_in_located x l q ps) (seq_in_most x l q ps) (eqb x p.0) refl (eqb l p.1) refl found
  where
    some_some : (a c : ℕ) → Some a ≡ Some c → a ≡ c
    some_some a c e = cc

    below : (seq_in x l ps ≡ Some q → at_seq q ps ≡ Some (x, l)) → (seq_in x l ps ≡ Some q → q ≤ length ps) → seq_in x l ps ≡ Some q → cond (eqb q (suc (length ps))) (Some p) (at_seq q ps) ≡ Some (x, l)
    below ih most e = let le = most e in rw (ne_eqb q (suc (length ps)) (λ f. omega arith)) (ih e)

    at : (seq_in x l ps ≡ Some q → at_seq q ps ≡ Some (x, l)) → (seq_in x l ps ≡ Some q → q ≤ length ps) → (t : Bool) → eqb x p.0 ≡ t → (u : Bool) → eqb l p.1 ≡ u → cond (t && u) (Some (suc (length ps))) (seq_in x l ps) ≡ Some q
        → cond (eqb q (suc (length ps))) (Some p) (at_seq q ps) ≡ Some (x, l)
    at ih most true e true f is =
        rw (eq-eqb q (suc (length ps)) (sym (some_some (suc (length ps)) q is)))
        (ap (λ a. Some (a, p.1)) (sym (eqb-true x p.0 e)) ∙ ap (λ a. Some (x, a)) (sym (eqb-true l p.1 f)))
    at ih most true e false f is = below ih most is
    at ih most false e u f is = below ih most is

-- The places of a part of a shard.

module _ {A : Type 0} where
  take_places : (n x k : ℕ) (s : List A) → take n (locations_from x k s) ≡ locations_from x k (take n s)
  take_places zero x k s = refl
  take_places (suc n) x k [] = refl
  take_places (suc n) x k (r ∷ s) = ap (λ l. (x, suc k) ∷ l) (take_places n x (suc k) s)

  drop_places : (n x k : ℕ) (s : List A) → drop n (locations_from x k s) ≡ locations_from x (k + n) (drop n s)
  drop_places zero x k s = ap (λ m. locations_from x m s) (let e : k ≡ k + 0 = omega arith in e)
  drop_places (suc n) x k [] = refl
  drop_places (suc n) x k (r ∷ s) = drop_places n x (suc k) s ∙ ap (λ m. locations_from x m (drop n s)) (let e : suc k + n ≡ k + suc n = omega arith in e)

  pub between_places : (o n x : ℕ) (s : List A) → records_between o n (locations_from x 0 s) ≡ locations_from x o (records_between o n s)
  between_places o n x s =
      ap (drop o) (take_places n x 0 s)
      ∙ drop_places o x 0 (take n s)
      ∙ ap (λ m. locations_from x m (records_between o n s)) (let e : 0 + o ≡ o = omega arith in e)

  pub length-between : (o n : ℕ) (s : List A) → n ≤ length s → length (records_between o n s) ≡ n - o
  length-between o n s le = omega (arith, length-drop o (take n s), length-take n s)

  pub at_seq_places : (q x k : ℕ) (zs : List A) → 0 < q → q ≤ length zs → at_seq q (reverse (locations_from x k zs)) ≡ Some (x, k + q)
  at_seq_places q x k [] lt le = absurd (let h : ⊥ = omega arith in h)
  at_seq_places q x k (z ∷ zs) lt le = ap (at_seq q) (reverse-cons (x, suc k) (locations_from x (suc k) zs)) ∙ at (at_seq_places (q - 1) x (suc k) zs) (cases_lt 1 q)
    where
      at : (0 < q - 1 → q - 1 ≤ length zs → at_seq (q - 1) (reverse (locations_from x (suc k) zs)) ≡ Some (x, suc k + (q - 1))) → (1 < q) ⊎ (q ≤ 1) → at_seq q (reverse (locations_from x (suc k) zs) ++ (x, suc k) ∷ []) ≡ Some (x, k + q)
      at ih (inl h) =
          at_seq_high q (reverse (locations_from x (suc k) zs)) ((x, suc k) ∷ []) h
          ∙ ih (omega arith) (omega arith)
          ∙ ap (λ m. Some (x, m)) (let e : suc k + (q - 1) ≡ k + q = omega arith in e)
      at ih (inr h) =
          at_seq_low q (reverse (locations_from x (suc k) zs)) ((x, suc k) ∷ []) h
          ∙ (let e : q ≡ 1 = omega arith in rw e (ap (λ m. Some (x, m)) (let f : suc k ≡ k + 1 = omega arith in f)))

  pub seq_places_other : (y l x k : ℕ) (zs : List A) → (y ≡ x → ⊥) → seq_in y l (reverse (locations_from x k zs)) ≡ None
  seq_places_other y l x k [] ne = refl
  seq_places_other y l x k (z ∷ zs) ne =
      ap (seq_in y l) (reverse-cons (x, suc k) (locations_from x (suc k) zs))
      ∙ seq_in_miss y l (reverse (locations_from x (suc k) zs)) ((x, suc k) ∷ []) (seq_places_other y l x (suc k) zs ne)
      ∙ rw (ne_eqb y x ne)

  pub seq_places_low : (l x k : ℕ) (zs : List A) → l ≤ k → seq_in x l (reverse (locations_from x k zs)) ≡ None
  seq_places_low l x k [] le = refl
  seq_places_low l x k (z ∷ zs) le =
      ap (seq_in x l) (reverse-cons (x, suc k) (locations_from x (suc k) zs))
      ∙ seq_in_miss x l (reverse (locations_from x (suc k) zs)) ((x, suc k) ∷ []) (seq_places_low l x (suc k) zs (omega arith))
      ∙ rw (eq-eqb x x refl, ne_eqb l (suc k) (λ e. omega arith))

  pub seq_places_high : (l x k : ℕ) (zs : List A) → k + length zs < l → seq_in x l (reverse (locations_from x k zs)) ≡ None
  seq_places_high l x k [] lt = refl
  seq_places_high l x k (z ∷ zs) lt =
      ap (seq_in x l) (reverse-cons (x, suc k) (locations_from x (suc k) zs))
      ∙ seq_in_miss x l (reverse (locations_from x (suc k) zs)) ((x, suc k) ∷ []) (seq_places_high l x (suc k) zs (omega arith))
      ∙ rw (eq-eqb x x refl, ne_eqb l (suc k) (λ e. omega arith))

  pub seq_places_in : (l x k : ℕ) (zs : List A) → k < l → l ≤ k + length zs → seq_in x l (reverse (locations_from x k zs)) ≡ Some (l - k)
  seq_places_in l x k [] lt le = absurd (let h : ⊥ = omega arith in h)
  seq_places_in l x k (z ∷ zs) lt le = ap (seq_in x l) (reverse-cons (x, suc k) (locations_from x (suc k) zs)) ∙ at (seq_places_in l x (suc k) zs) (cases_lt (suc k) l)
    where
      at : (suc k < l → l ≤ suc k + length zs → seq_in x l (reverse (locations_from x (suc k) zs)) ≡ Some (l - suc k)) → (suc k < l) ⊎ (l ≤ suc k) → seq_in x l (reverse (locations_from x (suc k) zs) ++ (x, suc k) ∷ []) ≡ Some (l - k)
      at ih (inl h) =
          seq_in_hit x l (l - suc k) (reverse (locations_from x (suc k) zs)) ((x, suc k) ∷ []) (ih h (omega arith))
          ∙ ap Some (let e : (l - suc k) + 1 ≡ l - k = omega arith in e)
      at ih (inr h) =
          seq_in_miss x l (reverse (locations_from x (suc k) zs)) ((x, suc k) ∷ []) (seq_places_low l x (suc k) zs h)
          ∙ rw (eq-eqb x x refl, eq-eqb l (suc k) (let e : l ≡ suc k = omega arith in e)) (ap Some (let f : 1 ≡ l - k = omega arith in f))
