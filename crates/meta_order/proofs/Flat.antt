-- Vectors that lie one behind the other in one list.
use Rattle.std.proofs.Common.{◌≡◌, ◌⊎◌, inl, inr, ℕ, zero, suc, ◌+◌, ◌-◌, ◌*◌, ◌^◌, ◌<◌, ◌≤◌, List, [], ◌∷◌, ◌++◌, length, take, drop, get_or, sum, refl, sym, ap, ◌∙◌, subst, arith, mul-le-mul_right, suc-mul}
use Rattle.std.proofs.lemmas.Bool.{cases_lt}
use Rattle.std.proofs.lemmas.List.{length-take, length-drop, length-append, take-append-le, drop-append-le, drop_at, take_all, get_or-take, get_or-drop, get_or_append_left, get_or_at, length_push}
use Rattle.boki_model.specs.Order.{last_vector}
use Rattle.boki_model.specs.OrderLaws.{AreAtMost}
use Rattle.boki_model.specs.Entries.{count_at}
use Rattle.boki_model.proofs.EntryPlaces.{count_most}
use Rattle.meta_order.specs.Rows.{row, vectors_to, metalog_of_rows, IsSound}
use Rattle.meta_order.proofs.Numbered.{Rows, most_of, last_alike}

-- a row within the list ends before the list does
pub row_end : (k n w : ℕ) → k < n → k * w + w ≤ n * w
row_end k n w lt = omega (arith, mul-le-mul_right w lt, suc-mul k w)

pub cell_within : (k n w i : ℕ) → k < n → i < w → k * w + i < n * w
cell_within k n w i lt within = omega (arith, row_end k n w lt)

pub length-row : (w k n : ℕ) (counts : List ℕ) → length counts ≡ n * w → k < n → length (row w counts k) ≡ w
length-row w k n counts size lt = omega (arith, length-take w (drop (k * w) counts), length-drop (k * w) counts, row_end k n w lt)

pub count_at_get : (i : ℕ) (v : List ℕ) → count_at i v ≡ get_or v i 0
count_at_get zero [] = refl
count_at_get zero (n ∷ ns) = refl
count_at_get (suc i) [] = count_at_get i []
count_at_get (suc i) (n ∷ ns) = count_at_get i ns

-- a count by its place in the list
pub cell : (w k i : ℕ) (counts : List ℕ) → i < w → get_or counts (k * w + i) 0 ≡ count_at i (row w counts k)
cell w k i counts within =
    sym (get_or-drop (k * w) counts i 0) ∙ sym (get_or-take w (drop (k * w) counts) i 0 within) ∙ sym (count_at_get i (row w counts k))

pub row_stays : (w k n : ℕ) (counts v : List ℕ) → length counts ≡ n * w → k < n → row w (counts ++ v) k ≡ row w counts k
row_stays w k n counts v size lt =
    ap (take w) (drop-append-le (k * w) counts v (omega (arith, row_end k n w lt)))
    ∙ take-append-le w (drop (k * w) counts) v (omega (arith, length-drop (k * w) counts, row_end k n w lt))

pub row_new : (w n : ℕ) (counts v : List ℕ) → length counts ≡ n * w → length v ≡ w → row w (counts ++ v) n ≡ v
row_new w n counts v size long = ap (take w) (drop_at counts v (n * w) size) ∙ take_all w v (omega arith)

pub vectors_stay : (w n m : ℕ) (counts v : List ℕ) → length counts ≡ n * w → m < n → vectors_to (row w (counts ++ v)) m ≡ vectors_to (row w counts) m
vectors_stay w n zero counts v size lt = refl
vectors_stay w n (suc m) counts v size lt =
    ap (λ r. r ∷ vectors_to (row w (counts ++ v)) m) (row_stays w (suc m) n counts v size lt)
    ∙ ap (λ l. row w counts (suc m) ∷ l) (vectors_stay w n m counts v size (omega arith))

pub rows : (w : ℕ) (counts ends : List ℕ) → IsSound w counts ends → Rows (row w counts) w (length ends - 1)
rows w counts ends h = record {
  long = λ k le. length-row w k (length ends) counts h.size (let s = h.some in omega arith);
  first = h.first;
  grow = λ k lt. h.grow k (omega arith);
}

-- one more vector
pub sound_push : (w : ℕ) (counts ends v : List ℕ) → IsSound w counts ends → length v ≡ w → AreAtMost (last_vector (vectors_to (row w counts) (length ends - 1))) v → sum v ≤ 2 ^ 63 → IsSound w (counts ++ v) (ends ++ sum v ∷ [])
sound_push w counts ends v h long most low = record {
  some = omega (arith, length_push ends (sum v));
  size = length-append counts v ∙ (let e = suc-mul (length ends) w in let f : length counts + length v ≡ suc (length ends) * w = omega (arith, h.size) in f) ∙ ap (λ n. n * w) (let e : suc (length ends) ≡ length (ends ++ sum v ∷ []) = omega (arith, length_push ends (sum v)) in e);
  first = λ i. ap (count_at i) (row_stays w 0 (length ends) counts v h.size h.some) ∙ h.first i;
  grow = λ k lt. grown k (omega (arith, length_push ends (sum v), lt)) (cases_lt (suc k) (length ends));
  sums = λ k lt. summed k (omega (arith, length_push ends (sum v), lt)) (cases_lt k (length ends));
  few = λ k lt. bounded k (omega (arith, length_push ends (sum v), lt)) (cases_lt k (length ends));
}
  where
    bounded : (k : ℕ) → k ≤ length ends → (k < length ends) ⊎ (length ends ≤ k) → get_or (ends ++ sum v ∷ []) k 0 ≤ 2 ^ 63
    bounded k le (inl lt) = omega (arith, get_or_append_left ends (sum v ∷ []) 0 k lt, h.few k lt)
    bounded k le (inr ge) = let e : length ends ≡ k = omega arith in omega (arith, get_or_at ends (sum v) [] 0 k e)

    grown : (k : ℕ) → suc k ≤ length ends → (suc k < length ends) ⊎ (length ends ≤ suc k) → AreAtMost (row w (counts ++ v) k) (row w (counts ++ v) (suc k))
    grown k le (inl lt) =
        subst (λ r. AreAtMost r (row w (counts ++ v) (suc k))) (sym (row_stays w k (length ends) counts v h.size (omega arith)))
        (subst (AreAtMost (row w counts k)) (sym (row_stays w (suc k) (length ends) counts v h.size lt)) (h.grow k lt))
    grown k le (inr ge) =
        let e : length ends ≡ suc k = omega arith in
        let f : length ends - 1 ≡ k = omega arith in
        subst (λ r. AreAtMost r (row w (counts ++ v) (suc k))) (sym (row_stays w k (length ends) counts v h.size (omega arith)))
        (subst (AreAtMost (row w counts k)) (sym (ap (row w (counts ++ v)) (sym e) ∙ row_new w (length ends) counts v h.size long))
        (most_of (row w counts k) v (λ i. omega (
          arith,
          count_most i (last_vector (vectors_to (row w counts) (length ends - 1))) v most,
          last_alike (row w counts) w (length ends - 1) (rows w counts ends h) i ∙ ap (λ j. count_at i (row w counts j)) f,
        ))))

    summed : (k : ℕ) → k ≤ length ends → (k < length ends) ⊎ (length ends ≤ k) → get_or (ends ++ sum v ∷ []) k 0 ≡ sum (row w (counts ++ v) k)
    summed k le (inl lt) = get_or_append_left ends (sum v ∷ []) 0 k lt ∙ h.sums k lt ∙ ap sum (sym (row_stays w k (length ends) counts v h.size lt))
    summed k le (inr ge) =
        let e : length ends ≡ k = omega arith in
        get_or_at ends (sum v) [] 0 k e ∙ ap sum (sym (ap (row w (counts ++ v)) (sym e) ∙ row_new w (length ends) counts v h.size long))

pub recorded_push : (w : ℕ) (counts ends v : List ℕ) → IsSound w counts ends → length v ≡ w
    → metalog_of_rows w (counts ++ v) (ends ++ sum v ∷ []) ≡ record (metalog_of_rows w counts ends) { vectors = v ∷ (metalog_of_rows w counts ends).vectors }
recorded_push w counts ends v h long =
    let n : ℕ = length ends - 1 in
    let e : length (ends ++ sum v ∷ []) - 1 ≡ suc n = omega (arith, length_push ends (sum v), h.some) in
    let f : suc n ≡ length ends = omega (arith, h.some) in
    ap (λ m. record { shards = w; vectors = vectors_to (row w (counts ++ v)) m }) e
    ∙ ap (λ r. record { shards = w; vectors = r ∷ vectors_to (row w (counts ++ v)) n }) (ap (row w (counts ++ v)) f ∙ row_new w (length ends) counts v h.size long)
    ∙ ap (λ l. record { shards = w; vectors = v ∷ l }) (vectors_stay w (length ends) n counts v h.size (omega arith))
