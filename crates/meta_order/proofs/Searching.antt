-- The loops over vectors.
use Rattle.std.proofs.Common.{◌≡◌, ℕ, zero, suc, ◌+◌, ◌-◌, ◌*◌, ◌<◌, ◌≤◌, cond, List, [], ◌∷◌, drop, get_or, Some, None, refl, ap, ap₂, ◌∙◌, arith}
use Rattle.std.proofs.lemmas.Bool.{le-leb, lt-leb}
use Rattle.boki_model.specs.Order.{first_count, other_counts}
use Rattle.boki_model.specs.Entries.{location_in_entry, rank_in_entry}

-- the first count that is at least `least` is neither before `low` nor behind `high`
pub record Between (counts : List ℕ) (width column rows least low high : ℕ) : Type 0 where
  pub order : low ≤ high
  pub bound : high ≤ rows
  pub below : 0 < low → get_or counts ((low - 1) * width + column) 0 < least
  pub above : high < rows → least ≤ get_or counts (high * width + column) 0

pub first_drop : (j : ℕ) (xs : List ℕ) → first_count (drop j xs) ≡ get_or xs j 0
first_drop zero [] = refl
first_drop zero (x ∷ xs) = refl
first_drop (suc j) [] = refl
first_drop (suc j) (x ∷ xs) = first_drop j xs

pub others_drop : (j : ℕ) (xs : List ℕ) → other_counts (drop j xs) ≡ drop (j + 1) xs
others_drop j xs = at j xs ∙ ap (λ n. drop n xs) (let e : suc j ≡ j + 1 = omega arith in e)
  where
    at : (j : ℕ) (xs : List ℕ) → other_counts (drop j xs) ≡ drop (suc j) xs
    at zero [] = refl
    at zero (x ∷ xs) = refl
    at (suc j) [] = refl
    at (suc j) (x ∷ xs) = at j xs

-- a shard that the number is behind
pub place_skip : (w j rest : ℕ) (old new : List ℕ) → j < w → get_or new j 0 - get_or old j 0 < rest
    → location_in_entry (w - j) j rest (drop j old) (drop j new) ≡ location_in_entry (w - (j + 1)) (j + 1) (rest - (get_or new j 0 - get_or old j 0)) (drop (j + 1) old) (drop (j + 1) new)
place_skip w j rest old new lt above =
    let d : ℕ = first_count (drop j new) - first_count (drop j old) in
    let size : d ≡ get_or new j 0 - get_or old j 0 = ap₂ (λ a c. a - c) (first_drop j new) (first_drop j old) in
    ap (λ n. location_in_entry n j rest (drop j old) (drop j new)) (let e : w - j ≡ suc (w - (j + 1)) = omega arith in e)
    ∙ ap (λ t. cond t (Some (suc j, first_count (drop j old) + rest)) (location_in_entry (w - (j + 1)) (suc j) (rest - d) (other_counts (drop j old)) (other_counts (drop j new)))) (lt-leb rest d (omega arith))
    ∙ ap₂ (λ a c. location_in_entry (w - (j + 1)) (suc j) (rest - d) a c) (others_drop j old) (others_drop j new)
    ∙ ap₂ (λ a c. location_in_entry (w - (j + 1)) a (rest - c) (drop (j + 1) old) (drop (j + 1) new)) (let e : suc j ≡ j + 1 = omega arith in e) size

pub place_here : (w j rest : ℕ) (old new : List ℕ) → j < w → rest ≤ get_or new j 0 - get_or old j 0
    → location_in_entry (w - j) j rest (drop j old) (drop j new) ≡ Some (j + 1, get_or old j 0 + rest)
place_here w j rest old new lt within =
    let d : ℕ = first_count (drop j new) - first_count (drop j old) in
    let size : d ≡ get_or new j 0 - get_or old j 0 = ap₂ (λ a c. a - c) (first_drop j new) (first_drop j old) in
    ap (λ n. location_in_entry n j rest (drop j old) (drop j new)) (let e : w - j ≡ suc (w - (j + 1)) = omega arith in e)
    ∙ ap (λ t. cond t (Some (suc j, first_count (drop j old) + rest)) (location_in_entry (w - (j + 1)) (suc j) (rest - d) (other_counts (drop j old)) (other_counts (drop j new)))) (le-leb rest d (omega arith))
    ∙ ap₂ (λ a c. Some (a, c + rest)) (let e : suc j ≡ j + 1 = omega arith in e) (first_drop j old)

pub place_none : (w j rest : ℕ) (old new : List ℕ) → w ≤ j → location_in_entry (w - j) j rest old new ≡ None
place_none w j rest old new le = ap (λ n. location_in_entry n j rest old new) (let e : w - j ≡ 0 = omega arith in e)

pub number_step : (i j local : ℕ) (old new : List ℕ) → j < i
    → rank_in_entry (i - j) local (drop j old) (drop j new) ≡ (get_or new j 0 - get_or old j 0) + rank_in_entry (i - (j + 1)) local (drop (j + 1) old) (drop (j + 1) new)
number_step i j local old new lt =
    ap (λ n. rank_in_entry n local (drop j old) (drop j new)) (let e : i - j ≡ suc (i - (j + 1)) = omega arith in e)
    ∙ ap₂ (λ a c. (a - c) + rank_in_entry (i - (j + 1)) local (other_counts (drop j old)) (other_counts (drop j new))) (first_drop j new) (first_drop j old)
    ∙ ap₂ (λ a c. (get_or new j 0 - get_or old j 0) + rank_in_entry (i - (j + 1)) local a c) (others_drop j old) (others_drop j new)

pub number_end : (i local : ℕ) (old new : List ℕ) → rank_in_entry (i - i) local (drop i old) (drop i new) ≡ local - get_or old i 0
number_end i local old new =
    ap (λ n. rank_in_entry n local (drop i old) (drop i new)) (let e : i - i ≡ 0 = omega arith in e)
    ∙ ap (λ a. local - a) (first_drop i old)
