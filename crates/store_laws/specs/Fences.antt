-- What an object store stands for depends on the list of fences only through the fence of each key.
use Rattle.std.specs.Prelude.{◌≡◌, ℕ, true, List, [], ◌∷◌}
use Rattle.boki_types.specs.declared.body.Body.{Body}
use Rattle.boki_model.specs.Live.{Live}
use Rattle.boki_model.specs.Maps.{has}
use Rattle.boki_model.specs.Writes.{Store, fence, read_free, read_fenced, after_read_fenced}
use Rattle.obj_store.specs.Kept.{StoreState}
use Rattle.obj_store.specs.StandsFor.{StandsFor}

-- Two stores that are the same but for their lists of fences, by which each key has the same fence.
pub record SameFences (m n : Store) : Type 0 where
  pub initial : n.initial ≡ m.initial
  pub named : n.named ≡ m.named
  pub versions : n.versions ≡ m.versions
  pub floor : n.floor ≡ m.floor
  pub fence_of : (key : List ℕ) → fence key n.fences ≡ fence key m.fences

-- what stands for one of them stands for the other
abbrev pub FencesByKey : Type 0
FencesByKey =
    (kept : StoreState) (m n : Store) (records : List (Live Body)) → SameFences m n
    → StandsFor kept m records → StandsFor kept n records

-- the fences of some keys are raised to a marker one after another
abbrev pub fenced_each : List (List ℕ) → ℕ → Store → Store
fenced_each [] at m = m
fenced_each (key ∷ keys) at m = fenced_each keys at (after_read_fenced (key ∷ []) at m)

-- The fences of a group of keys raised to a marker, all at once.
pub record RaisesGroup (keys : List (List ℕ)) (at : ℕ) (m : Store) : Type 0 where
  -- one after another is the same
  pub each : SameFences (after_read_fenced keys at m) (fenced_each keys at m)
  -- and behind it one of them raised again to the marker changes nothing, nor do all of them
  pub again :
      (key : List ℕ) → has key keys ≡ true
      → SameFences (after_read_fenced (key ∷ []) at (after_read_fenced keys at m)) (after_read_fenced keys at m)
  pub all_again : SameFences (after_read_fenced keys at (after_read_fenced keys at m)) (after_read_fenced keys at m)
  -- the other parts stay, and reads don't look at fences
  pub named : (after_read_fenced keys at m).named ≡ m.named
  pub floor : (after_read_fenced keys at m).floor ≡ m.floor
  pub free :
      (key : List ℕ) (cursor : ℕ) (view : List (Live Body))
      → read_free key cursor (after_read_fenced keys at m) view ≡ read_free key cursor m view
  pub fenced :
      (key : List ℕ) (seq : ℕ) (view : List (Live Body))
      → read_fenced key seq (after_read_fenced keys at m) view ≡ read_fenced key seq m view

abbrev pub GroupsAreRaised : Type 0
GroupsAreRaised = (keys : List (List ℕ)) (at : ℕ) (m : Store) → RaisesGroup keys at m
