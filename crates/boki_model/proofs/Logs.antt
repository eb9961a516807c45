-- Live records and their reads, as the log grows.
use Rattle.std.proofs.Common.{◌≡◌, ◌⊎◌, inl, inr, ℕ, zero, suc, ◌-◌, ◌<◌, ◌≤◌, Bool, true, false, cond, ◌&&◌, eqb, List, [], ◌∷◌, ◌++◌, length, drop, reverse, slice_get, Some, None, option_map, refl, sym, ap, ◌∙◌, arith}
use Rattle.std.proofs.lemmas.Bool.{eqb-true, le-leb, lt-leb, eq-eqb, ne_eqb, cases_lt}
use Rattle.std.proofs.lemmas.List.{length-reverse}
use Rattle.std.proofs.lemmas.Bool.Decides.{nat_tests}
use mathlib.Core.List.{reverse-cons}
use Rattle.boki_model.specs.Live.{LogRecord, Live, has_tag, count, meets_condition, append_if_live, live, upto}
use Rattle.boki_model.specs.Reads.{tagged_seqnums, nth, nth_seq}
use Rattle.boki_model.specs.LogLaws.{FallBelow}

module _ {A : Type 0} where
  pub fall_more : (n m : ℕ) (xs : List (Live A)) → n ≤ m → FallBelow n xs → FallBelow m xs
  fall_more n m [] le fall = tt
  fall_more n m (x ∷ xs) le fall = (fall.0, omega (arith, fall.1), fall.2)

  pub joined_falls : (n : ℕ) (r : LogRecord A) (xs : List (Live A)) → 0 < n → FallBelow n xs → FallBelow (suc n) (append_if_live n r xs)
  joined_falls n r xs at fall =
      elim (meets_condition r.condition xs) as (λ b. FallBelow (suc n) (cond b (record { seq = n; tags = r.tags; holds = r.holds } ∷ xs) xs))
      [ true ↦ (at, omega arith, fall) | false ↦ fall_more n (suc n) xs (omega arith) fall ]

  pub live_falls : (log : List (LogRecord A)) → FallBelow (suc (length log)) (live log)
  live_falls [] = tt
  live_falls (r ∷ log) = joined_falls (suc (length log)) r (live log) (omega arith) (live_falls log)

  pub upto_here : (p : ℕ) (x : Live A) (xs : List (Live A)) → x.seq ≤ p → upto p (x ∷ xs) ≡ x ∷ xs
  upto_here p x xs le = rw (le-leb x.seq p le)

  pub upto_skip : (p : ℕ) (x : Live A) (xs : List (Live A)) → p < x.seq → upto p (x ∷ xs) ≡ upto p xs
  upto_skip p x xs lt = rw (lt-leb x.seq p lt)

  -- an engine that has them all sees them all
  pub upto_all : (n p : ℕ) (xs : List (Live A)) → FallBelow n xs → n ≤ suc p → upto p xs ≡ xs
  upto_all n p [] fall le = refl
  upto_all n p (x ∷ xs) fall le = upto_here p x xs (omega (arith, fall.1))

  pub upto_joined : (p n : ℕ) (r : LogRecord A) (xs : List (Live A)) → p < n → upto p (append_if_live n r xs) ≡ upto p xs
  upto_joined p n r xs lt =
      elim (meets_condition r.condition xs) as (λ b. upto p (cond b (record { seq = n; tags = r.tags; holds = r.holds } ∷ xs) xs) ≡ upto p xs)
      [ true ↦ upto_skip p (record { seq = n; tags = r.tags; holds = r.holds }) xs lt | false ↦ refl ]

  pub earlier_stays : (r : LogRecord A) (log : List (LogRecord A)) (p : ℕ) → p ≤ length log → upto p (live (r ∷ log)) ≡ upto p (live log)
  earlier_stays r log p le = upto_joined p (suc (length log)) r (live log) (omega arith)

  pub prefix_seen : (n : ℕ) (log : List (LogRecord A)) → live (drop n log) ≡ upto (length log - n) (live log)
  prefix_seen zero log = sym (upto_all (suc (length log)) (length log - 0) (live log) (live_falls log) (omega arith))
  prefix_seen (suc n) [] = refl
  prefix_seen (suc n) (r ∷ log) =
      prefix_seen n log
      ∙ sym (earlier_stays r log (length log - n) (omega arith))
      ∙ ap (λ p. upto p (live (r ∷ log))) (let e : length log - n ≡ suc (length log) - suc n = omega arith in e)

  -- below a seqnum that is seen, seeing less is seeing less of all
  pub upto-upto : (c p : ℕ) (xs : List (Live A)) → c ≤ p → upto c (upto p xs) ≡ upto c xs
  upto-upto c p [] le = refl
  upto-upto c p (x ∷ xs) le = at (upto-upto c p xs le) (cases_lt p x.seq)
    where
      at : upto c (upto p xs) ≡ upto c xs → (p < x.seq) ⊎ (x.seq ≤ p) → upto c (upto p (x ∷ xs)) ≡ upto c (x ∷ xs)
      at ih (inl h) = ap (upto c) (upto_skip p x xs h) ∙ ih ∙ sym (upto_skip c x xs (omega arith))
      at ih (inr h) = ap (upto c) (upto_here p x xs h)

  -- Places.

  pub nth_below : (tag place : ℕ) (x : Live A) (xs : List (Live A)) → nth tag place xs ≡ Some x → place < count tag xs
  nth_below tag place x [] found = cc
  nth_below tag place x (y ∷ ys) found = at (nth_below tag place x ys) (has_tag tag y.tags) (eqb place (count tag ys)) refl found
    where
      at : (nth tag place ys ≡ Some x → place < count tag ys) → (b c : Bool) → eqb place (count tag ys) ≡ c → cond (b && c) (Some y) (nth tag place ys) ≡ Some x → place < cond b (suc (count tag ys)) (count tag ys)
      at ih true true e is = omega (arith, eqb-true place (count tag ys) e)
      at ih true false e is = omega (arith, ih is)
      at ih false c e is = ih is

  pub nth_past : (tag place : ℕ) (xs : List (Live A)) → count tag xs ≤ place → nth tag place xs ≡ None
  nth_past tag place [] le = refl
  nth_past tag place (y ∷ ys) le = at (nth_past tag place ys) (has_tag tag y.tags) (eqb place (count tag ys)) refl le
    where
      at : (count tag ys ≤ place → nth tag place ys ≡ None) → (b c : Bool) → eqb place (count tag ys) ≡ c → cond b (suc (count tag ys)) (count tag ys) ≤ place → cond (b && c) (Some y) (nth tag place ys) ≡ None
      at ih true true e le = absurd (let h : ⊥ = omega (arith, eqb-true place (count tag ys) e) in h)
      at ih true false e le = ih (omega arith)
      at ih false c e le = ih le

  pub nth_skip : (tag place : ℕ) (y : Live A) (xs : List (Live A)) → place < count tag xs → nth tag place (y ∷ xs) ≡ nth tag place xs
  nth_skip tag place y xs lt = rw (ne_eqb place (count tag xs) (λ e. omega arith)) (at (has_tag tag y.tags))
    where
      at : (b : Bool) → cond (b && false) (Some y) (nth tag place xs) ≡ nth tag place xs
      at true = refl
      at false = refl

  pub nth_here : (tag : ℕ) (y : Live A) (xs : List (Live A)) → has_tag tag y.tags ≡ true → nth tag (count tag xs) (y ∷ xs) ≡ Some y
  nth_here tag y xs has = rw (has, eq-eqb (count tag xs) (count tag xs) refl)

  pub places_stay : (r : LogRecord A) (log : List (LogRecord A)) (tag place : ℕ) (x : Live A) → nth tag place (live log) ≡ Some x → nth tag place (live (r ∷ log)) ≡ Some x
  places_stay r log tag place x found =
      elim (meets_condition r.condition (live log)) as (λ b. nth tag place (cond b (record { seq = suc (length log); tags = r.tags; holds = r.holds } ∷ live log) (live log)) ≡ Some x)
      [ true ↦ nth_skip tag place (record { seq = suc (length log); tags = r.tags; holds = r.holds }) (live log) (nth_below tag place x (live log) found) ∙ found | false ↦ found ]

  pub new_place : (r : LogRecord A) (log : List (LogRecord A)) (tag : ℕ) → meets_condition r.condition (live log) ≡ true → has_tag tag r.tags ≡ true → nth tag (count tag (live log)) (live (r ∷ log)) ≡ Some (record { seq = suc (length log); tags = r.tags; holds = r.holds })
  new_place r log tag meet has = rw meet (nth_here tag (record { seq = suc (length log); tags = r.tags; holds = r.holds }) (live log) has)

  pub length-tagged : (tag : ℕ) (xs : List (Live A)) → length (tagged_seqnums tag xs) ≡ count tag xs
  length-tagged tag [] = refl
  length-tagged tag (x ∷ xs) = at (length-tagged tag xs) (has_tag tag x.tags)
    where
      at : length (tagged_seqnums tag xs) ≡ count tag xs → (b : Bool) → length (cond b (x.seq ∷ tagged_seqnums tag xs) (tagged_seqnums tag xs)) ≡ cond b (suc (count tag xs)) (count tag xs)
      at ih true = ap suc ih
      at ih false = ih

eqb-suc : (i j : ℕ) → eqb i j ≡ eqb (suc i) (suc j)
eqb-suc i j = grind (arith, nat_tests)

pub slice_get_push : {X : Type 0} (xs : List X) (x : X) (i : ℕ) → slice_get (xs ++ x ∷ []) i ≡ cond (eqb i (length xs)) (Some x) (slice_get xs i)
slice_get_push [] x zero = refl
slice_get_push [] x (suc i) = rw (ne_eqb (suc i) 0 (λ e. omega arith))
slice_get_push (y ∷ ys) x zero = rw (ne_eqb 0 (suc (length ys)) (λ e. omega arith))
slice_get_push (y ∷ ys) x (suc i) = slice_get_push ys x i ∙ ap (λ b. cond b (Some x) (slice_get ys i)) (eqb-suc i (length ys))

module _ {A : Type 0} where
  pub places_ascend : (tag place : ℕ) (xs : List (Live A)) → nth_seq tag place xs ≡ slice_get (reverse (tagged_seqnums tag xs)) place
  places_ascend tag place [] = refl
  places_ascend tag place (x ∷ xs) = at (places_ascend tag place xs) (has_tag tag x.tags)
    where
      same : option_map (λ y. y.seq) (nth tag place xs) ≡ slice_get (reverse (tagged_seqnums tag xs)) place → (c : Bool) → option_map (λ y. y.seq) (cond c (Some x) (nth tag place xs)) ≡ cond c (Some x.seq) (slice_get (reverse (tagged_seqnums tag xs)) place)
      same ih true = refl
      same ih false = ih

      at : option_map (λ y. y.seq) (nth tag place xs) ≡ slice_get (reverse (tagged_seqnums tag xs)) place → (b : Bool) → option_map (λ y. y.seq) (cond (b && eqb place (count tag xs)) (Some x) (nth tag place xs)) ≡ slice_get (reverse (cond b (x.seq ∷ tagged_seqnums tag xs) (tagged_seqnums tag xs))) place
      at ih true =
          same ih (eqb place (count tag xs))
          ∙ ap (λ n. cond (eqb place n) (Some x.seq) (slice_get (reverse (tagged_seqnums tag xs)) place)) (sym (length-reverse (tagged_seqnums tag xs) ∙ length-tagged tag xs))
          ∙ sym (slice_get_push (reverse (tagged_seqnums tag xs)) x.seq place)
          ∙ ap (λ l. slice_get l place) (sym (reverse-cons x.seq (tagged_seqnums tag xs)))
      at ih false = ih
