-- The lists of an index, by tag, as its map keeps them: the seqnums and the room that a list has.
use Rattle.std.specs.Prelude.{◌≡◌, ◌⊎◌, ℕ, ◌<◌, ◌-◌, nat_eq, ◌==◌, Bool, false, cond, List, [], ◌∷◌, ◌++◌, length, slice_get, Option, Some, None, true}
use Rattle.std.specs.Option.{option_map_or, IsSomeAnd}
use Rattle.std.specs.HashMap.{HashMap, get}
use Rattle.std.specs.declared.vec.Vec.{Vec}
use Rattle.std.specs.Vec.{vec_len, vec_capacity}
use Rattle.lb_base.specs.declared.value.Cond.{Cond}

-- whether the last of a list is the seqnum
abbrev pub ends_with : ℕ → List ℕ → Bool
ends_with seq xs = option_map_or (λ last. last == seq) (slice_get xs (length xs - 1)) false

-- the list with the seqnum at its end, where it doesn't stand there already
abbrev pub with_last : ℕ → List ℕ → List ℕ
with_last seq xs = cond (ends_with seq xs) xs (xs ++ seq ∷ [])

module _ {S Z : Type 0} where
  -- the seqnums of a tag: none where it has no list
  abbrev pub seqs : ℕ → HashMap ℕ (Vec ℕ Z) S → List ℕ
  seqs tag m = option_map_or (λ v. v.items) (get nat_eq m tag) []

  -- the tag has a list, with room for one more
  abbrev pub HasRoom : ℕ → HashMap ℕ (Vec ℕ Z) S → Type 0
  HasRoom tag m = IsSomeAnd (get nat_eq m tag) (λ v. vec_len v < vec_capacity v)

  -- the tag has a list, which ends with the seqnum or has room for it
  abbrev pub IsReady : ℕ → ℕ → HashMap ℕ (Vec ℕ Z) S → Type 0
  IsReady seq tag m = IsSomeAnd (get nat_eq m tag) (λ v. (ends_with seq v.items ≡ true) ⊎ (vec_len v < vec_capacity v))

  -- whether a record with this condition is live behind those of the lists
  abbrev pub is_met : Option Cond → HashMap ℕ (Vec ℕ Z) S → Bool
  is_met None m = true
  is_met (Some c) m = c.place == length (seqs c.tag.0 m)
