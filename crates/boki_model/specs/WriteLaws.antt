-- Laws of writes by position.
use Rattle.std.specs.Prelude.{◌≡◌, ℕ, ◌<◌, false, List, [], ◌∷◌, None}
use Rattle.boki_types.specs.declared.body.Body.{Body}
use Rattle.boki_model.specs.Live.{Live}
use Rattle.boki_model.specs.LogLaws.{FallBelow}
use Rattle.boki_model.specs.Writes.{Version, Store, Write, version_value, writes_of, is_below, last_value_below}

-- no write of the list stands at the position
abbrev pub IsFree : ℕ → ℕ → List Write → Type 0
IsFree a j [] = Unit {0}
IsFree a j (w ∷ ws) = (a ≡ w.first → j ≡ w.second → ⊥) × IsFree a j ws

-- no two writes stand at one position
abbrev pub HaveOwnPositions : List Write → Type 0
HaveOwnPositions [] = Unit {0}
HaveOwnPositions (w ∷ ws) = IsFree w.first w.second ws × HaveOwnPositions ws

-- versions are numbered from 1, and none has the key, the cursor and the number of another
abbrev pub AreUniqueVersions : List Version → Type 0
AreUniqueVersions [] = Unit {0}
AreUniqueVersions (v ∷ vs) = (0 < v.number) × (version_value v.key v.cursor v.number vs ≡ None) × AreUniqueVersions vs

-- each write of a key has a position of its own
abbrev pub PositionsAreUnique : Type 0
PositionsAreUnique =
    (key : List ℕ) (store : Store) (n : ℕ) (view : List (Live Body))
    → AreUniqueVersions store.versions → FallBelow n view → HaveOwnPositions (writes_of key store view)

abbrev pub with_version : Version → Store → Store
with_version v store = record store { versions = v ∷ store.versions }

-- One further version.
pub record ChangesNoLast (v : Version) (store : Store) (view : List (Live Body)) : Type 0 where
  -- of another key the last writes stay
  pub others : (key : List ℕ) (c k : ℕ) → (key ≡ v.key → ⊥) → last_value_below key c k (with_version v store) view ≡ last_value_below key c k store view
  -- of its own key those below each position up to its own
  pub before : (c k : ℕ) → is_below v.cursor v.number c k ≡ false → last_value_below v.key c k (with_version v store) view ≡ last_value_below v.key c k store view

abbrev pub LastWritesStay : Type 0
LastWritesStay = (v : Version) (store : Store) (view : List (Live Body)) → ChangesNoLast v store view
