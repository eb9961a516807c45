-- The order of vectors that are numbered from the oldest, behind a vector of zeros.
use Rattle.std.proofs.Common.{◌≡◌, ◌⊎◌, inl, inr, ℕ, zero, suc, ◌+◌, ◌-◌, ◌<◌, ◌≤◌, cond, ◌&&◌, eqb, leb, List, [], ◌∷◌, length, sum, Some, None, refl, sym, ap, ap₂, ◌∙◌, subst, arith}
use Rattle.std.proofs.lemmas.Bool.{cases_lt}
use Rattle.lb_base.specs.declared.value.Record.{Record}
use Rattle.boki_model.specs.Order.{first_count, other_counts, last_vector, ordered_locations, seq_of, locate}
use Rattle.boki_model.specs.OrderLaws.{AreAtMost, CountsGrow, ShardsHave}
use Rattle.boki_model.specs.Entries.{count_at, total, same_counts, location_in_entry, rank_in_entry}
use Rattle.boki_model.proofs.Orders.{have_less}
use Rattle.boki_model.proofs.Places.{at_seq_past}
use Rattle.boki_model.proofs.EntryPlaces.{count_most, locate_new, locate_old, seq_of_new, seq_of_old, seq_not_counted}
use Rattle.boki_model.proofs.Cuts.{total_sum, length_places_total}
use Rattle.meta_order.specs.Rows.{vectors_to}

-- Vectors that count alike; a count that is missing is 0.

abbrev pub Alike : List ℕ → List ℕ → Type 0
Alike u v = (i : ℕ) → count_at i u ≡ count_at i v

abbrev others : (u v : List ℕ) → Alike u v → Alike (other_counts u) (other_counts v)
others u v same = λ i. same (suc i)

total_alike : (w : ℕ) (u v : List ℕ) → Alike u v → total w u ≡ total w v
total_alike zero u v same = refl
total_alike (suc w) u v same = ap₂ (λ a c. a + c) (same 0) (total_alike w (other_counts u) (other_counts v) (others u v same))

place_alike : (w k q : ℕ) (u v new : List ℕ) → Alike u v → location_in_entry w k q u new ≡ location_in_entry w k q v new
place_alike zero k q u v new same = refl
place_alike (suc w) k q u v new same =
    ap (λ o. cond (leb q (first_count new - o)) (Some (suc k, o + q)) (location_in_entry w (suc k) (q - (first_count new - o)) (other_counts u) (other_counts new))) (same 0)
    ∙ ap (cond (leb q (first_count new - first_count v)) (Some (suc k, first_count v + q)))
    (place_alike w (suc k) (q - (first_count new - first_count v)) (other_counts u) (other_counts v) (other_counts new) (others u v same))

number_alike : (i l : ℕ) (u v new : List ℕ) → Alike u v → rank_in_entry i l u new ≡ rank_in_entry i l v new
number_alike zero l u v new same = ap (λ o. l - o) (same 0)
number_alike (suc i) l u v new same = ap₂ (λ o n. (first_count new - o) + n) (same 0) (number_alike i l (other_counts u) (other_counts v) (other_counts new) (others u v same))

pub same_alike : (ns u v : List ℕ) → Alike u v → same_counts ns u ≡ same_counts ns v
same_alike [] u v same = refl
same_alike (n ∷ ns) u v same = ap₂ (λ o t. eqb n o && t) (same 0) (same_alike ns (other_counts u) (other_counts v) (others u v same))

have_alike : (shards : List (List Record)) (u v : List ℕ) → Alike u v → ShardsHave shards u → ShardsHave shards v
have_alike [] u v same have = tt
have_alike (s ∷ ss) u v same have = (omega (arith, have.0, same 0), have_alike ss (other_counts u) (other_counts v) (others u v same) have.1)

pub most_of : (u v : List ℕ) → ((i : ℕ) → count_at i u ≤ count_at i v) → AreAtMost u v
most_of [] v most = tt
most_of (n ∷ ns) v most = (most 0, most_of ns (other_counts v) (λ i. most (suc i)))

total_most : (w : ℕ) (u v : List ℕ) → ((i : ℕ) → count_at i u ≤ count_at i v) → total w u ≤ total w v
total_most zero u v most = omega arith
total_most (suc w) u v most = omega (arith, most 0, total_most w (other_counts u) (other_counts v) (λ i. most (suc i)))

-- what an entry adds makes the next total
pub number_most : (w i l : ℕ) (u v : List ℕ) → i < w → ((i : ℕ) → count_at i u ≤ count_at i v) → count_at i u ≤ l → l ≤ count_at i v → total w u + rank_in_entry i l u v ≤ total w v
number_most zero i l u v within most ge le = absurd (let h : ⊥ = omega arith in h)
number_most (suc w) zero l u v within most ge le = omega (arith, most 0, total_most w (other_counts u) (other_counts v) (λ i. most (suc i)))
number_most (suc w) (suc i) l u v within most ge le = omega (arith, most 0, number_most w i l (other_counts u) (other_counts v) (omega arith) (λ i. most (suc i)) ge le)

-- the facts of numbered vectors
pub record Rows (at : ℕ → List ℕ) (w n : ℕ) : Type 0 where
  pub long : (k : ℕ) → k ≤ n → length (at k) ≡ w
  pub first : (i : ℕ) → count_at i (at 0) ≡ 0
  pub grow : (k : ℕ) → k < n → AreAtMost (at k) (at (suc k))

pub fewer : (at : ℕ → List ℕ) (w n m : ℕ) → m ≤ n → Rows at w n → Rows at w m
fewer at w n m le h = record { long = λ k lt. h.long k (omega arith); first = h.first; grow = λ k lt. h.grow k (omega arith) }

count_none : (i : ℕ) → count_at i [] ≡ 0
count_none zero = refl
count_none (suc i) = count_none i

module _ (at : ℕ → List ℕ) (w : ℕ) where
  pub last_alike : (n : ℕ) → Rows at w n → Alike (last_vector (vectors_to at n)) (at n)
  last_alike zero h = λ i. count_none i ∙ sym (h.first i)
  last_alike (suc n) h = λ i. refl

  pub vectors_grow : (n : ℕ) → Rows at w n → CountsGrow (vectors_to at n)
  vectors_grow zero h = tt
  vectors_grow (suc zero) h = (tt, tt)
  vectors_grow (suc (suc n)) h = (h.grow (suc n) (omega arith), vectors_grow (suc n) (fewer at w (suc (suc n)) (suc n) (omega arith) h))

  pub length_vectors : (n : ℕ) → length (vectors_to at n) ≡ n
  length_vectors zero = refl
  length_vectors (suc n) = ap suc (length_vectors n)

  sum_total : (n k : ℕ) → Rows at w n → k ≤ n → total w (at k) ≡ sum (at k)
  sum_total n k h le = ap (λ m. total m (at k)) (sym (h.long k le)) ∙ total_sum (at k)

  pub sum_last : (n : ℕ) → Rows at w n → total w (last_vector (vectors_to at n)) ≡ sum (at n)
  sum_last n h = total_alike w (last_vector (vectors_to at n)) (at n) (last_alike n h) ∙ sum_total n n h (omega arith)

  sum_step : (n k : ℕ) → Rows at w n → k < n → sum (at k) ≤ sum (at (suc k))
  sum_step n k h lt = omega (arith, sum_total n k h (omega arith), sum_total n (suc k) h lt, total_most w (at k) (at (suc k)) (λ i. count_most i (at k) (at (suc k)) (h.grow k lt)))

  pub sum_most : (n k m : ℕ) → Rows at w n → k ≤ m → m ≤ n → sum (at k) ≤ sum (at m)
  sum_most n k zero h le top = subst (λ j. sum (at k) ≤ sum (at j)) (let e : k ≡ 0 = omega arith in e) (omega arith)
  sum_most n k (suc m) h le top = cases (sum_most n k m h) (cases_lt m k)
    where
      cases : (k ≤ m → m ≤ n → sum (at k) ≤ sum (at m)) → (m < k) ⊎ (k ≤ m) → sum (at k) ≤ sum (at (suc m))
      cases ih (inl h2) = subst (λ j. sum (at k) ≤ sum (at j)) (let e : k ≡ suc m = omega arith in e) (omega arith)
      cases ih (inr h2) = let first = ih h2 (omega arith) in let next = sum_step n m h (omega arith) in omega arith

  -- the number within an entry, behind what was before, is no more than the entry's sum
  pub number_fits : (n k i l : ℕ) → Rows at w n → k < n → i < w → count_at i (at k) ≤ l → l ≤ count_at i (at (suc k)) → sum (at k) + rank_in_entry i l (at k) (at (suc k)) ≤ sum (at (suc k))
  number_fits n k i l h lt within ge le =
      omega (arith, sum_total n k h (omega arith), sum_total n (suc k) h lt, number_most w i l (at k) (at (suc k)) within (λ i. count_most i (at k) (at (suc k)) (h.grow k lt)) ge le)

  module _ (shards : List (List Record)) (many : length shards ≡ w) where
    have_last : (n : ℕ) → Rows at w n → ShardsHave shards (last_vector (vectors_to at n)) → ShardsHave shards (at n)
    have_last n h have = have_alike shards (last_vector (vectors_to at n)) (at n) (last_alike n h) have

    have_before : (n : ℕ) → Rows at w (suc n) → ShardsHave shards (at (suc n)) → ShardsHave shards (last_vector (vectors_to at n))
    have_before n h have =
        have_alike shards (at n) (last_vector (vectors_to at n)) (λ i. sym (last_alike n (fewer at w (suc n) n (omega arith) h) i))
        (have_less shards (at n) (at (suc n)) (h.grow n (omega arith)) have)

    pub places_sum : (n : ℕ) → Rows at w n → ShardsHave shards (last_vector (vectors_to at n)) → length (ordered_locations shards (vectors_to at n)) ≡ sum (at n)
    places_sum n h have =
        length_places_total shards (vectors_to at n) (vectors_grow n h) have
        ∙ ap (λ m. total m (last_vector (vectors_to at n))) many
        ∙ sum_last n h

    -- the place of a seqnum that entry k + 1 adds
    pub locate_at : (n k q : ℕ) → Rows at w n → ShardsHave shards (last_vector (vectors_to at n)) → k < n → sum (at k) < q → q ≤ sum (at (suc k))
        → locate q shards (vectors_to at n) ≡ location_in_entry w 0 (q - sum (at k)) (at k) (at (suc k))
    locate_at zero k q h have lt above upto = absurd (let f : ⊥ = omega arith in f)
    locate_at (suc n) k q h have lt above upto = cases (locate_at n k q less before) (cases_lt k n)
      where
        less : Rows at w n
        less = fewer at w (suc n) n (omega arith) h

        before : ShardsHave shards (last_vector (vectors_to at n))
        before = have_before n h have

        size : length (ordered_locations shards (vectors_to at n)) ≡ sum (at n)
        size = places_sum n less before

        here : k ≡ n → locate q shards (vectors_to at (suc n)) ≡ location_in_entry w 0 (q - sum (at k)) (at k) (at (suc k))
        here e =
            locate_new shards q (at (suc n)) (vectors_to at n) (vectors_grow (suc n) h) have (let f : sum (at n) < q = subst (λ j. sum (at j) < q) e above in let g = size in omega arith)
            ∙ ap (λ m. location_in_entry (length shards) 0 (q - m) (last_vector (vectors_to at n)) (at (suc n))) size
            ∙ ap (λ m. location_in_entry m 0 (q - sum (at n)) (last_vector (vectors_to at n)) (at (suc n))) many
            ∙ place_alike w 0 (q - sum (at n)) (last_vector (vectors_to at n)) (at n) (at (suc n)) (last_alike n less)
            ∙ ap (λ j. location_in_entry w 0 (q - sum (at j)) (at j) (at (suc j))) (sym e)

        cases : (k < n → sum (at k) < q → q ≤ sum (at (suc k)) → locate q shards (vectors_to at n) ≡ location_in_entry w 0 (q - sum (at k)) (at k) (at (suc k))) → (k < n) ⊎ (n ≤ k)
            → locate q shards (vectors_to at (suc n)) ≡ location_in_entry w 0 (q - sum (at k)) (at k) (at (suc k))
        cases ih (inl old) =
            locate_old shards q (at (suc n)) (vectors_to at n) (let f = sum_most n (suc k) n less old (omega arith) in let g = size in omega arith) ∙ ih old above upto
        cases ih (inr new) = here (omega arith)

    pub locate_past : (n q : ℕ) → Rows at w n → ShardsHave shards (last_vector (vectors_to at n)) → sum (at n) < q → locate q shards (vectors_to at n) ≡ None
    locate_past n q h have past = at_seq_past q (ordered_locations shards (vectors_to at n)) (let e = places_sum n h have in omega arith)

    -- the seqnum of a record that entry k + 1 adds
    pub seq_at : (n k i l : ℕ) → Rows at w n → ShardsHave shards (last_vector (vectors_to at n)) → k < n → i < w → count_at i (at k) < l → l ≤ count_at i (at (suc k))
        → seq_of (suc i) l shards (vectors_to at n) ≡ Some (sum (at k) + rank_in_entry i l (at k) (at (suc k)))
    seq_at zero k i l h have lt within above upto = absurd (let f : ⊥ = omega arith in f)
    seq_at (suc n) k i l h have lt within above upto = cases (seq_at n k i l less before) (cases_lt k n)
      where
        less : Rows at w n
        less = fewer at w (suc n) n (omega arith) h

        before : ShardsHave shards (last_vector (vectors_to at n))
        before = have_before n h have

        size : length (ordered_locations shards (vectors_to at n)) ≡ sum (at n)
        size = places_sum n less before

        counted : (m : ℕ) → suc k ≤ m → m ≤ n → l ≤ count_at i (at m)
        counted zero low top = absurd (let f : ⊥ = omega arith in f)
        counted (suc m) low top = either (counted m) (cases_lt k m)
          where
            either : (suc k ≤ m → m ≤ n → l ≤ count_at i (at m)) → (k < m) ⊎ (m ≤ k) → l ≤ count_at i (at (suc m))
            either ih (inl more) = omega (arith, ih more (omega arith), count_most i (at m) (at (suc m)) (h.grow m (omega arith)))
            either ih (inr same) = subst (λ j. l ≤ count_at i (at (suc j))) (let e : k ≡ m = omega arith in e) upto

        here : k ≡ n → seq_of (suc i) l shards (vectors_to at (suc n)) ≡ Some (sum (at k) + rank_in_entry i l (at k) (at (suc k)))
        here e =
            seq_of_new shards i l (at (suc n)) (vectors_to at n) (vectors_grow (suc n) h) have (omega arith)
            (let f : count_at i (at n) < l = subst (λ j. count_at i (at j) < l) e above in omega (arith, last_alike n less i))
            (subst (λ j. l ≤ count_at i (at (suc j))) e upto)
            ∙ ap (λ m. Some (rank_in_entry i l (last_vector (vectors_to at n)) (at (suc n)) + m)) size
            ∙ ap (λ m. Some (m + sum (at n))) (number_alike i l (last_vector (vectors_to at n)) (at n) (at (suc n)) (last_alike n less))
            ∙ ap Some (let f : rank_in_entry i l (at n) (at (suc n)) + sum (at n) ≡ sum (at n) + rank_in_entry i l (at n) (at (suc n)) = omega arith in f)
            ∙ ap (λ j. Some (sum (at j) + rank_in_entry i l (at j) (at (suc j)))) (sym e)

        cases : (k < n → i < w → count_at i (at k) < l → l ≤ count_at i (at (suc k)) → seq_of (suc i) l shards (vectors_to at n) ≡ Some (sum (at k) + rank_in_entry i l (at k) (at (suc k)))) → (k < n) ⊎ (n ≤ k)
            → seq_of (suc i) l shards (vectors_to at (suc n)) ≡ Some (sum (at k) + rank_in_entry i l (at k) (at (suc k)))
        cases ih (inl old) =
            seq_of_old shards i l (at (suc n)) (vectors_to at n) (vectors_grow (suc n) h) have (omega (arith, last_alike n less i, counted n old (omega arith)))
            ∙ ih old within above upto
        cases ih (inr new) = here (omega arith)

    pub seq_past : (n i l : ℕ) → Rows at w n → ShardsHave shards (last_vector (vectors_to at n)) → (l ≡ 0) ⊎ (count_at i (at n) < l) → seq_of (suc i) l shards (vectors_to at n) ≡ None
    seq_past n i l h have out = seq_not_counted shards i l (vectors_to at n) (vectors_grow n h) have (either out)
      where
        either : (l ≡ 0) ⊎ (count_at i (at n) < l) → (l ≡ 0) ⊎ (count_at i (last_vector (vectors_to at n)) < l)
        either (inl e) = inl e
        either (inr lt) = inr (omega (arith, last_alike n h i))
