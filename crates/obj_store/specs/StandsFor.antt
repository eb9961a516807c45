-- For which store of the definitions, one that never drops a value, an object store stands.
use Rattle.std.specs.Prelude.{◌≡◌, ℕ, ◌+◌, ◌<◌, ◌≤◌, Bool, true, cond, nat_le, nat_lt, List, [], ◌∷◌, length, filter, bytes_eq, Option, Some, None, is_some, IsTrue, ◌⊎◌}
use Rattle.std.specs.List.{IsDistinct}
use Rattle.std.specs.Map.{lookup, keys_of}
use Rattle.std.specs.Option.{IsSomeAnd}
use Rattle.lb_base.specs.declared.value.Value.{Value}
use Rattle.boki_types.specs.declared.body.Body.{Body}
use Rattle.boki_types.specs.declared.store.Name.{Name}
use Rattle.boki_model.specs.Live.{Live}
use Rattle.std.specs.Option.{option_or}
use Rattle.boki_model.specs.LogLaws.{FallBelow}
use Rattle.boki_model.specs.WriteLaws.{AreUniqueVersions}
use Rattle.boki_model.specs.Writes.{NamedValue, Version, Store, Write, value_under_name, fence, logged_write, here_or_named, logged_writes, version_writes, initial_writes, last_write_below, is_settled}
use Rattle.obj_store.specs.Kept.{StoreState, KeptObject, object_in, same_name_pair, value_under, last_of_two, sort_writes, total}

-- the versions whose cursor isn't below the floor
abbrev pub versions_from : ℕ → List Version → List Version
versions_from floor versions = filter (λ v. nat_le floor v.cursor) versions

-- the initial object of a key, as a write
abbrev pub initial_write : List ℕ → List (List ℕ × Value) → Option Write
initial_write key objects = last_write_below 1 0 (initial_writes key objects)

-- the last write of a key below the floor, or its initial object
abbrev pub base_of : List ℕ → Store → List (Live Body) → Option Write
base_of key m records =
    last_of_two (last_write_below m.floor 0 (logged_writes key m.named records))
    (last_of_two (last_write_below m.floor 0 (version_writes key m.versions)) (initial_write key m.initial))

-- what is kept of a key of a store
abbrev pub kept_of : List ℕ → Store → List (Live Body) → KeptObject
kept_of key m records = record {
  base = base_of key m records;
  versions = sort_writes (version_writes key (versions_from m.floor m.versions));
  fence = fence key m.fences;
}

-- what is kept under a name: nothing where it is that of a live logged write below the floor
abbrev pub kept_under : Name → Store → List (Live Body) → Option Value
kept_under name m records = cond (is_settled name m.floor records) None (value_under_name name m.named)

-- no key stands twice among initial objects
abbrev pub KeysDiffer : List (List ℕ × Value) → Type 0
KeysDiffer [] = Unit {0}
KeysDiffer (x ∷ xs) = (lookup (bytes_eq x.0) xs ≡ None) × KeysDiffer xs

-- no name has two values
abbrev pub NamesDiffer : List NamedValue → Type 0
NamesDiffer [] = Unit {0}
NamesDiffer (s ∷ ss) = (value_under_name s.name ss ≡ None) × NamesDiffer ss

-- each live logged write below the floor has a value: its record holds it, or it was stored under its name
abbrev pub HasValue : List NamedValue → Option (List ℕ × (Name × Option Value)) → Type 0
HasValue named None = Unit {0}
HasValue named (Some w) = here_or_named w.1.1 w.1.0 named ≡ None → ⊥

abbrev pub HaveValues : ℕ → List NamedValue → List (Live Body) → Type 0
HaveValues floor named [] = Unit {0}
HaveValues floor named (x ∷ xs) = (x.seq < floor → HasValue named (logged_write x.holds)) × HaveValues floor named xs

-- no key and no name stands twice, and the count is right
pub record IsSound (kept : StoreState) : Type 0 where
  pub keys : IsDistinct bytes_eq (keys_of kept.objects)
  pub names : IsDistinct same_name_pair (keys_of kept.named)
  pub count : kept.held ≡ total kept.objects + length kept.named

-- The object store stands for the store m, whose live records are these, the newest first: it keeps of m what no read at or above
-- the floor can do without. Of the records it is told only the logged writes below the floor, so where it stands for m with some
-- records it does so with all that have the same ones below the floor.
pub record StandsFor (kept : StoreState) (m : Store) (records : List (Live Body)) : Type 0 where
  pub floor : kept.floor ≡ m.floor
  pub objects : (key : List ℕ) → object_in key kept.objects ≡ kept_of key m records
  pub named : (name : Name) → value_under name kept.named ≡ kept_under name m records
  pub sound : IsSound kept
  pub numbered : AreUniqueVersions m.versions
  pub differ : NamesDiffer m.named
  pub valued : HaveValues m.floor m.named records
  pub end : ℕ
  pub falls : FallBelow end records

-- After Memory: each answer is as before.
pub record IsUnchanged (old new : StoreState) : Type 0 where
  pub objects : (key : List ℕ) → object_in key new.objects ≡ object_in key old.objects
  pub named : (name : Name) → value_under name new.named ≡ value_under name old.named
  pub floor : new.floor ≡ old.floor
  pub held : new.held ≡ old.held
  pub sound : IsSound old → IsSound new

-- The last live logged write of a key whose seqnum is below n: its seqnum, its name, and its value where its record holds it.
abbrev pub logged_of : List ℕ → ℕ → Bool → Option (List ℕ × (Name × Option Value)) → Option (ℕ × (Name × Option Value))
logged_of key seq true (Some w) = cond (bytes_eq key w.0) (Some (seq, w.1)) None
logged_of key seq _ _ = None

abbrev pub last_logged : List ℕ → ℕ → List (Live Body) → Option (ℕ × (Name × Option Value))
last_logged key n [] = None
last_logged key n (x ∷ xs) = option_or (logged_of key x.seq (nat_lt x.seq n) (logged_write x.holds)) (last_logged key n xs)

-- its value is in its record, or is kept under its name, or a base of the key at or above it is kept
abbrev pub IsCovered : List ℕ → StoreState → ℕ × (Name × Option Value) → Type 0
IsCovered key kept logged =
    IsTrue (is_some (option_or logged.1.1 (value_under logged.1.0 kept.named)))
    ⊎ IsSomeAnd (object_in key kept.objects).base (λ base. logged.0 ≤ base.first)
