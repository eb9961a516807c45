-- What an engine has seen, learned and appended.
use Rattle.std.specs.Prelude.{◌==◌, cond, ◌≡◌, ℕ, ◌+◌, ◌<◌, ◌≤◌, List, [], ◌∷◌, length, take, slice_get, Option, Some, None}
use mathlib.Core.List.{IsPrefix}
use Rattle.eng_index.specs.IndexState.{IndexState, IsIndexOf}
use Rattle.live_log.specs.Appended.{Appended, log_of}

-- An engine as contracts see it: its number, the list that it has seen, the longest that it has seen or learned of, its position,
-- and its own appends with their indexes in the list, from 0
pub record Engine : Type 0 where
  pub number : ℕ
  pub seen : List Appended
  pub known : List Appended
  pub position : ℕ
  pub appends : List (ℕ × Appended)

-- with the record found at an index, if one is
abbrev pub with_found : ℕ → Option Appended → List (ℕ × Appended) → List (ℕ × Appended)
with_found index None rest = rest
with_found index (Some x) rest = (index, x) ∷ rest

-- an engine's own appends: it keeps their indexes, and the records stand there in the list that it knows
abbrev pub appends_at : List Appended → List ℕ → List (ℕ × Appended)
appends_at known [] = []
appends_at known (index ∷ indexes) = with_found index (slice_get known index) (appends_at known indexes)

-- each of these is below the number
abbrev pub AllBelow : ℕ → List ℕ → Type 0
AllBelow n [] = Unit {0}
AllBelow n (index ∷ indexes) = (index < n) × AllBelow n indexes

-- the index has the first records of the copy, as many as it has marks
pub record IsIndexed (copied : List Appended) (index : IndexState) : Type 0 where
  pub within : length index.marks ≤ length copied
  pub shows : IsIndexOf (log_of (take (length index.marks) copied)) index

-- each record stands at its index in the list
abbrev pub EachAtIndex : List Appended → List (ℕ × Appended) → Type 0
EachAtIndex known [] = Unit {0}
EachAtIndex known (p ∷ ps) = (slice_get known p.0 ≡ Some p.1) × EachAtIndex known ps

-- the appends of one engine, at indexes that rise from this one
abbrev pub AscendingBy : ℕ → ℕ → List (ℕ × Appended) → Type 0
AscendingBy who from [] = Unit {0}
AscendingBy who from (p ∷ ps) = (from ≤ p.0) × (p.1.0 ≡ who) × AscendingBy who (p.0 + 1) ps

-- the least index that the next may have
abbrev pub next_index : ℕ → List (ℕ × Appended) → ℕ
next_index from [] = from
next_index from (p ∷ ps) = next_index (p.0 + 1) ps

-- what holds of each engine
pub record IsSound (who : ℕ) (seen known copied : List Appended) (appends : List (ℕ × Appended)) (parts amount : ℕ) : Type 0 where
  pub copied_is : IsPrefix copied seen
  pub seen_is : IsPrefix seen known
  pub rises : AscendingBy who 0 appends
  pub within : next_index 0 appends ≤ length known
  pub stands : EachAtIndex known appends
  pub one_part : parts ≡ 1
  pub counted : amount ≡ length appends

-- the same of an engine that keeps the indexes of its appends
pub record IsSoundByIndex (who : ℕ) (seen known copied : List Appended) (indexes : List ℕ) (parts amount : ℕ) : Type 0 where
  pub sound : IsSound who seen known copied (appends_at known indexes) parts amount
  pub placed : AllBelow (length known) indexes

-- how many records of this engine a list has
abbrev pub records_in : ℕ → List Appended → ℕ
records_in who [] = 0
records_in who (x ∷ xs) = cond (x.0 == who) 1 0 + records_in who xs
