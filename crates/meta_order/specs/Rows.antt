-- How the vectors lie in memory: one behind the other in one list, the oldest first, behind a vector of zeros, so that each
-- entry has one before it; and beside them the sum of each.
use Rattle.std.specs.Prelude.{◌≡◌, ℕ, zero, suc, ◌-◌, ◌*◌, ◌^◌, ◌<◌, ◌≤◌, List, [], ◌∷◌, length, take, drop, sum, get_or}
use Rattle.boki_model.specs.OrderLaws.{AreAtMost}
use Rattle.boki_model.specs.Entries.{count_at}
use Rattle.meta_order.specs.MetalogState.{MetalogState}

-- the vector of an entry
abbrev pub row : ℕ → List ℕ → ℕ → List ℕ
row width counts k = take width (drop (k * width) counts)

-- the vectors of the first entries, the newest first
abbrev pub vectors_to : (ℕ → List ℕ) → ℕ → List (List ℕ)
vectors_to at zero = []
vectors_to at (suc n) = at (suc n) ∷ vectors_to at n

abbrev pub metalog_of_rows : ℕ → List ℕ → List ℕ → MetalogState
metalog_of_rows width counts ends = record { shards = width; vectors = vectors_to (row width counts) (length ends - 1) }

pub record IsSound (width : ℕ) (counts ends : List ℕ) : Type 0 where
  pub some : 0 < length ends
  pub size : length counts ≡ length ends * width
  pub first : (i : ℕ) → count_at i (row width counts 0) ≡ 0
  pub grow : (k : ℕ) → suc k < length ends → AreAtMost (row width counts k) (row width counts (suc k))
  pub sums : (k : ℕ) → k < length ends → get_or ends k 0 ≡ sum (row width counts k)
  pub few : (k : ℕ) → k < length ends → get_or ends k 0 ≤ 2 ^ 63
