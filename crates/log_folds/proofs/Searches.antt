-- The reads up to a position, as searches of a tag's ascending seqnums.
use Rattle.std.proofs.Common.{◌≡◌, ℕ, zero, suc, ◌-◌, ◌<◌, ◌≤◌, min, Bool, true, false, cond, leb, ltb, ◌&&◌, List, [], ◌∷◌, ◌++◌, length, take, reverse, get_or, find, slice_get, Option, Some, None, refl, sym, ap, ◌∙◌, arith}
use Rattle.std.specs.Option.{option_or}
use Rattle.std.specs.List.{filter}
use Rattle.std.proofs.lemmas.Bool.{lt-ltb, le-ltb, ne_eqb}
use Rattle.std.proofs.lemmas.Bool.Decides.{nat_tests}
use Rattle.std.proofs.lemmas.List.{length-reverse, reverse-reverse, length-take-le}
use Rattle.std.proofs.lemmas.List.Elements.{filter-append}
use Rattle.std.proofs.lemmas.List.Folds.{find-append}
use mathlib.Core.List.{reverse-cons}
use Rattle.boki_model.specs.Live.{Live, has_tag, count, upto}
use Rattle.boki_model.specs.Reads.{tagged_seqnums, next, prev, nth_seq}
use Rattle.boki_model.specs.LogLaws.{FallBelow}
use Rattle.boki_model.proofs.Logs.{length-tagged, places_ascend}
use Rattle.log_folds.specs.Bounds.{ascending, IsCountUpTo, IsCountBelow, element_before, IsSearched, IsSeenUpTo}
use Rattle.log_folds.proofs.UpTo.{seen_of_falling}
use Rattle.log_folds.proofs.Basics.{or_none}

-- the test answers so for each below a place, and so for each from it on
abbrev IsBelow : (ℕ → Bool) → Bool → List ℕ → ℕ → Type 0
IsBelow q b xs i = (k d : ℕ) → k < i → q (get_or xs k d) ≡ b

abbrev IsFrom : (ℕ → Bool) → Bool → List ℕ → ℕ → Type 0
IsFrom q b xs i = (k d : ℕ) → i ≤ k → k < length xs → q (get_or xs k d) ≡ b

rest_below :
    (q : ℕ → Bool) (b : Bool) (x : ℕ) (xs : List ℕ) (i : ℕ) → IsBelow q b (x ∷ xs) (suc i)
    → IsBelow q b xs i
rest_below q b x xs i low = λ k d lt. low (suc k) d (omega arith)

rest_from :
    (q : ℕ → Bool) (b : Bool) (x : ℕ) (xs : List ℕ) (i j : ℕ) → IsFrom q b (x ∷ xs) j → j ≤ suc i
    → IsFrom q b xs i
rest_from q b x xs i j high le = λ k d from lt. high (suc k) d (omega arith) (omega arith)

none_below : (q : ℕ → Bool) (b : Bool) (xs : List ℕ) → IsBelow q b xs 0
none_below q b xs = λ k d lt. absurd (let h : ⊥ = omega arith in h)

-- The front that passes.

filter_front :
    (q : ℕ → Bool) (xs : List ℕ) (n : ℕ) → n ≤ length xs → IsBelow q true xs n → IsFrom q false xs n
    → filter q xs ≡ take n xs
filter_front q [] zero le low high = refl
filter_front q [] (suc n) le low high = absurd (let h : ⊥ = omega arith in h)
filter_front q (x ∷ xs) zero le low high =
    ap (λ b. cond b (x ∷ filter q xs) (filter q xs)) (high 0 0 (omega arith) (omega arith))
    ∙ filter_front q xs 0 (omega arith) (none_below q true xs) (rest_from q false x xs 0 0 high (omega arith))
filter_front q (x ∷ xs) (suc n) le low high =
    ap (λ b. cond b (x ∷ filter q xs) (filter q xs)) (low 0 0 (omega arith))
    ∙ ap (λ l. x ∷ l) (filter_front q xs n (omega arith) (rest_below q true x xs n low) (rest_from q false x xs n (suc n) high (omega arith)))

append-none : (ys : List ℕ) → ys ++ [] ≡ ys
append-none [] = refl
append-none (y ∷ ys) = ap (λ l. y ∷ l) (append-none ys)

filter_reversed : (q : ℕ → Bool) (xs : List ℕ) → reverse (filter q xs) ≡ filter q (reverse xs)
filter_reversed q [] = refl
filter_reversed q (x ∷ xs) = at (filter_reversed q xs) (q x) refl ∙ sym (ap (filter q) (reverse-cons x xs) ∙ filter-append q (reverse xs) (x ∷ []))
  where
    at :
        reverse (filter q xs) ≡ filter q (reverse xs) → (b : Bool) → q x ≡ b
        → reverse (cond b (x ∷ filter q xs) (filter q xs)) ≡ filter q (reverse xs) ++ filter q (x ∷ [])
    at ih true e = reverse-cons x (filter q xs) ∙ ap (λ l. l ++ x ∷ []) ih ∙ ap (λ b. filter q (reverse xs) ++ cond b (x ∷ []) []) (sym e)
    at ih false e = ih ∙ sym (append-none (filter q (reverse xs))) ∙ ap (λ b. filter q (reverse xs) ++ cond b (x ∷ []) []) (sym e)

tests_below : (i j : ℕ) → ltb i j ≡ ltb (suc i) (suc j)
tests_below i j = grind (arith, nat_tests)

none_either : (b : Bool) → ◌≡◌ {A = Option ℕ} (cond b None None) None
none_either true = refl
none_either false = refl

slice_get_taken : (xs : List ℕ) (n i : ℕ) → slice_get (take n xs) i ≡ cond (ltb i n) (slice_get xs i) None
slice_get_taken xs zero i = sym (ap (λ b. cond b (slice_get xs i) None) (le-ltb i 0 (omega arith)))
slice_get_taken [] (suc n) i = sym (none_either (ltb i (suc n)))
slice_get_taken (x ∷ xs) (suc n) zero = sym (ap (λ b. cond b (Some x) None) (lt-ltb 0 (suc n) (omega arith)))
slice_get_taken (x ∷ xs) (suc n) (suc i) = slice_get_taken xs n i ∙ ap (λ b. cond b (slice_get xs i) None) (tests_below i n)

-- the first that passes, where those from k on pass, in the front
find_taken :
    (q : ℕ → Bool) (xs : List ℕ) (k n : ℕ) → k ≤ length xs → IsBelow q false xs k → IsFrom q true xs k
    → find q (take n xs) ≡ cond (ltb k n) (slice_get xs k) None
find_taken q xs k zero le low high = sym (ap (λ b. cond b (slice_get xs k) None) (le-ltb k 0 (omega arith)))
find_taken q [] k (suc n) le low high = sym (none_either (ltb k (suc n)))
find_taken q (x ∷ xs) zero (suc n) le low high =
    ap (λ b. cond b (Some x) (find q (take n xs))) (high 0 0 (omega arith) (omega arith))
    ∙ sym (ap (λ b. cond b (Some x) None) (lt-ltb 0 (suc n) (omega arith)))
find_taken q (x ∷ xs) (suc k) (suc n) le low high =
    ap (λ b. cond b (Some x) (find q (take n xs))) (low 0 0 (omega arith))
    ∙ find_taken q xs k n (omega arith) (rest_below q false x xs k low) (rest_from q true x xs k (suc k) high (omega arith))
    ∙ ap (λ b. cond b (slice_get xs k) None) (tests_below k n)

-- The last that passes, where those below k pass.

some_at : (xs : List ℕ) (i : ℕ) → i < length xs → (x : ℕ) × (slice_get xs i ≡ Some x)
some_at [] i lt = absurd (let h : ⊥ = omega arith in h)
some_at (x ∷ xs) zero lt = (x, refl)
some_at (x ∷ xs) (suc i) lt = some_at xs i (omega arith)

abbrev last_at : ℕ → List ℕ → Option ℕ
last_at zero xs = None
last_at (suc i) xs = slice_get xs i

find_before_point :
    (q : ℕ → Bool) (xs : List ℕ) (i : ℕ) → i ≤ length xs → IsBelow q true xs i → IsFrom q false xs i
    → find q (reverse xs) ≡ last_at i xs
find_before_point q [] zero le low high = refl
find_before_point q [] (suc i) le low high = refl
find_before_point q (x ∷ xs) i le low high = ap (find q) (reverse-cons x xs) ∙ find-append q (reverse xs) (x ∷ []) ∙ at (find_before_point q xs) i le low high
  where
    at :
        ((i : ℕ) → i ≤ length xs → IsBelow q true xs i → IsFrom q false xs i → find q (reverse xs) ≡ last_at i xs)
        → (i : ℕ) → i ≤ suc (length xs) → IsBelow q true (x ∷ xs) i → IsFrom q false (x ∷ xs) i
        → option_or (find q (reverse xs)) (cond (q x) (Some x) None) ≡ last_at i (x ∷ xs)
    at ih zero le low high =
        ap (λ b. option_or (find q (reverse xs)) (cond b (Some x) None)) (high 0 0 (omega arith) (omega arith))
        ∙ ap (λ o. option_or o None) (ih 0 (omega arith) (none_below q true xs) (rest_from q false x xs 0 0 high (omega arith)))
    at ih (suc zero) le low high =
        ap (λ b. option_or (find q (reverse xs)) (cond b (Some x) None)) (low 0 0 (omega arith))
        ∙ ap (λ o. option_or o (Some x)) (ih 0 (omega arith) (none_below q true xs) (rest_from q false x xs 0 1 high (omega arith)))
    at ih (suc (suc j)) le low high =
        let here = some_at xs j (omega arith) in
        ap (λ o. option_or o (cond (q x) (Some x) None)) (ih (suc j) (omega arith) (rest_below q true x xs (suc j) low) (rest_from q false x xs (suc j) (suc (suc j)) high (omega arith)) ∙ here.1)
        ∙ sym here.1

last_before : (i : ℕ) (xs : List ℕ) → last_at i xs ≡ element_before i xs
last_before zero xs = refl
last_before (suc i) xs = sym (ap (λ b. cond b None (slice_get xs (suc i - 1))) (ne_eqb (suc i) 0 (λ e. omega arith)) ∙ ap (slice_get xs) (let e : suc i - 1 ≡ i = omega arith in e))

-- tests of order, as a search and a read ask them

not_below : (a x : ℕ) → ltb x a ≡ false → leb a x ≡ true
not_below a x e = grind (arith, nat_tests)

not_from : (a x : ℕ) → ltb x a ≡ true → leb a x ≡ false
not_from a x e = grind (arith, nat_tests)

-- A read of a tag, as a search.

same_or : {X : Type 0} (o p : Option X) → option_or o p ≡ option_or o p
same_or None p = refl
same_or (Some x) p = refl

module _ {A : Type 0} where
  next_is_find : (tag a : ℕ) (xs : List (Live A)) → next tag a xs ≡ find (leb a) (ascending tag xs)
  next_is_find tag a [] = refl
  next_is_find tag a (x ∷ xs) = at (next_is_find tag a xs) (has_tag tag x.tags)
    where
      at :
          next tag a xs ≡ find (leb a) (reverse (tagged_seqnums tag xs)) → (b : Bool)
          → option_or (next tag a xs) (cond (b && leb a x.seq) (Some x.seq) None)
          ≡ find (leb a) (reverse (cond b (x.seq ∷ tagged_seqnums tag xs) (tagged_seqnums tag xs)))
      at ih true =
          ap (λ o. option_or o (cond (leb a x.seq) (Some x.seq) None)) ih
          ∙ same_or (find (leb a) (reverse (tagged_seqnums tag xs))) (cond (leb a x.seq) (Some x.seq) None)
          ∙ sym (find-append (leb a) (reverse (tagged_seqnums tag xs)) (x.seq ∷ []))
          ∙ ap (find (leb a)) (sym (reverse-cons x.seq (tagged_seqnums tag xs)))
      at ih false = or_none (next tag a xs) ∙ ih

  prev_is_find : (tag b : ℕ) (xs : List (Live A)) → prev tag b xs ≡ find (λ seq. leb seq b) (tagged_seqnums tag xs)
  prev_is_find tag b [] = refl
  prev_is_find tag b (x ∷ xs) = at (prev_is_find tag b xs) (has_tag tag x.tags)
    where
      at :
          prev tag b xs ≡ find (λ seq. leb seq b) (tagged_seqnums tag xs) → (t : Bool)
          → cond (t && leb x.seq b) (Some x.seq) (prev tag b xs)
          ≡ find (λ seq. leb seq b) (cond t (x.seq ∷ tagged_seqnums tag xs) (tagged_seqnums tag xs))
      at ih true = ap (cond (leb x.seq b) (Some x.seq)) ih
      at ih false = ih

  module _ (end tag p n : ℕ) (seqs : List ℕ) (xs : List (Live A)) (fall : FallBelow end xs) (is : seqs ≡ ascending tag xs) (parts : IsCountUpTo p seqs n) where
    abbrev seen : List (Live A)
    seen = upto p xs

    abbrev bounded : IsSeenUpTo p xs
    bounded = seen_of_falling end p xs fall

    seqnums : ascending tag seen ≡ take n seqs
    seqnums =
        ap reverse (bounded.seqnums tag)
        ∙ filter_reversed (λ seq. leb seq p) (tagged_seqnums tag xs)
        ∙ ap (filter (λ seq. leb seq p)) (sym is)
        ∙ filter_front (λ seq. leb seq p) seqs n parts.0 (λ k d lt. parts.1.0 k d (let le = parts.0 in omega arith) lt) (λ k d from lt. parts.1.1 k d from lt)

    found_from : (a : ℕ) → next tag a seen ≡ find (leb a) (take n seqs)
    found_from a = next_is_find tag a seen ∙ ap (find (leb a)) seqnums

    found_to : (b : ℕ) → prev tag b seen ≡ find (λ seq. leb seq b) (reverse (take n seqs))
    found_to b = prev_is_find tag b seen ∙ ap (find (λ seq. leb seq b)) (sym (reverse-reverse (tagged_seqnums tag seen)) ∙ ap reverse seqnums)

    counted : count tag seen ≡ n
    counted = sym (length-tagged tag seen) ∙ sym (length-reverse (tagged_seqnums tag seen)) ∙ ap length seqnums ∙ length-take-le n seqs parts.0

    placed : (place : ℕ) → nth_seq tag place seen ≡ cond (ltb place n) (slice_get seqs place) None
    placed place = places_ascend tag place seen ∙ ap (λ l. slice_get l place) seqnums ∙ slice_get_taken seqs n place

    first_from : (a k : ℕ) → IsCountBelow a seqs k → next tag a seen ≡ cond (ltb k n) (slice_get seqs k) None
    first_from a k below =
        found_from a
        ∙ find_taken (leb a) seqs k n below.0 (λ j d lt. not_from a _ (below.1.0 j d (let le = below.0 in omega arith) lt)) (λ j d from lt. not_below a _ (below.1.1 j d from lt))

    last_to : (b k : ℕ) → IsCountUpTo (min b p) seqs k → prev tag b seen ≡ element_before k seqs
    last_to b k within =
        bounded.last_to tag b
        ∙ prev_is_find tag (min b p) xs
        ∙ ap (find (λ seq. leb seq (min b p))) (sym (ap reverse is ∙ reverse-reverse (tagged_seqnums tag xs)))
        ∙ find_before_point (λ seq. leb seq (min b p)) seqs k within.0 (λ j d lt. within.1.0 j d (let le = within.0 in omega arith) lt) (λ j d from lt. within.1.1 j d from lt)
        ∙ last_before k seqs

    pub searched : IsSearched tag p n seqs seen
    searched = record {
      seqnums = seqnums;
      counted = counted;
      placed = placed;
      first_from = first_from;
      last_to = last_to;
      found_from = found_from;
      found_to = found_to;
    }
