-- What the calls do with one object.
use Rattle.std.specs.Prelude.{◌≡◌, ℕ, Bool, true, false, cond, nat_lt, List, [], ◌∷◌, filter, map, slice_get, length, max, option_map, ◌≤◌, suc, ◌-◌, ◌+◌, ◌==◌, ◌||◌, bytes_eq, Option, Some, None}
use Rattle.std.specs.List.{IsDistinct}
use Rattle.std.specs.Map.{lookup, keys_of}
use Rattle.boki_model.specs.Maps.{has}
use Rattle.std.specs.Option.{option_or}
use Rattle.boki_model.specs.Writes.{Write, write_at, later_write, last_write_below, fenced_answer}
use Rattle.lb_base.specs.declared.value.Value.{Value}
use Rattle.boki_types.specs.declared.store.Name.{Name}
use Rattle.boki_types.specs.declared.store.Fenced.{Fenced}
use Rattle.boki_types.specs.declared.store.Fenced.TheVariants as f
use Rattle.obj_store.specs.declared.object.VersionStatus.{VersionStatus}
use Rattle.obj_store.specs.declared.object.VersionStatus.TheVariants as s
use Rattle.obj_store.specs.Ascending.{Ascend, has_at, not_below, last_value}
use Rattle.obj_store.specs.declared.objects.SweptWrite.{SweptWrite}
use Rattle.obj_store.specs.Kept.{KeptObject, empty_object, object_in, has_key, count_of, total, insert_write, value_under}

abbrev pub status_by : Bool → Bool → VersionStatus
status_by true fenced = s.Present
status_by false true = s.BelowFence
status_by false false = s.Insertable

-- the status of a version in its object
abbrev pub version_status_of : ℕ → ℕ → KeptObject → VersionStatus
version_status_of cursor k object = status_by (has_at cursor k object.versions) (nat_lt cursor object.fence)

-- the last version below the floor is the base, and those below the floor are dropped
abbrev pub swept_object : ℕ → KeptObject → KeptObject
swept_object floor object = record object {
  base = option_or (last_write_below floor 0 object.versions) object.base;
  versions = not_below floor object.versions;
}

-- the object of a key after logged writes, each with the key of its object, were made the base in turn
abbrev pub lifted_one : List ℕ → SweptWrite → KeptObject → KeptObject
lifted_one key p object = cond (bytes_eq key p.key) (record object { base = later_write p.write object.base }) object

abbrev pub lifted : List ℕ → List SweptWrite → KeptObject → KeptObject
lifted key [] object = object
lifted key (p ∷ ps) object = lifted key ps (lifted_one key p object)

-- whether one of them is of the key
abbrev pub has_swept_write : List ℕ → List SweptWrite → Bool
has_swept_write key [] = false
has_swept_write key (p ∷ ps) = bytes_eq key p.key || has_swept_write key ps

-- how many versions of an object stand at a cursor
abbrev pub count_at_cursor : ℕ → KeptObject → ℕ
count_at_cursor cursor object = length (filter (λ w. cursor == w.first) object.versions)

abbrev pub raised_to : ℕ → KeptObject → KeptObject
raised_to at object = record object { fence = max at object.fence }

abbrev pub with_version : Write → KeptObject → KeptObject
with_version w object = record object { versions = insert_write w object.versions }

-- Some keys have new entries that say nothing.
pub record AddsEmptyObjects (old new : List (List ℕ × KeptObject)) : Type 0 where
  pub objects : (key : List ℕ) → object_in key new ≡ object_in key old
  pub keys : (key : List ℕ) → has_key key old ≡ true → has_key key new ≡ true
  pub total : total new ≡ total old
  pub distinct : IsDistinct bytes_eq (keys_of old) → IsDistinct bytes_eq (keys_of new)

-- One object is another, and the other objects are as they were.
pub record ChangesObject (key : List ℕ) (f : KeptObject → KeptObject) (old new : List (List ℕ × KeptObject)) : Type 0 where
  pub objects : (k : List ℕ) → object_in k new ≡ cond (bytes_eq key k) (f (object_in k old)) (object_in k old)
  pub keys : keys_of new ≡ keys_of old
  pub total : total new + count_of (object_in key old) ≡ total old + count_of (f (object_in key old))

-- Some objects have their fences raised, and the other objects are as they were.
pub record RaisesFences (raised : List (List ℕ)) (at : ℕ) (old new : List (List ℕ × KeptObject)) : Type 0 where
  pub objects : (k : List ℕ) → object_in k new ≡ cond (has k raised) (raised_to at (object_in k old)) (object_in k old)
  pub keys : keys_of new ≡ keys_of old
  pub total : total new ≡ total old

-- Logged writes were made the bases of their objects.
pub record LiftsBases (passed : List SweptWrite) (old new : List (List ℕ × KeptObject)) : Type 0 where
  pub objects : (k : List ℕ) → object_in k new ≡ lifted k passed (object_in k old)
  pub keys : keys_of new ≡ keys_of old
  pub total : total new ≤ total old + length passed

-- the versions of each object are in order
abbrev pub AllAscend : List (List ℕ × KeptObject) → Type 0
AllAscend es = (index : ℕ) (e : List ℕ × KeptObject) → slice_get es index ≡ Some e → Ascend e.1.versions

abbrev pub swept_objects : ℕ → List (List ℕ × KeptObject) → List (List ℕ × KeptObject)
swept_objects floor es = map (λ e. (e.0, swept_object floor e.1)) es

-- A version was put in.
pub record PutsVersion (key : List ℕ) (w : Write) (old new : List (List ℕ × KeptObject)) : Type 0 where
  pub objects : (k : List ℕ) → object_in k new ≡ cond (bytes_eq key k) (with_version w (object_in k old)) (object_in k old)
  pub total : total new ≡ total old + 1
  pub distinct : IsDistinct bytes_eq (keys_of old) → IsDistinct bytes_eq (keys_of new)

-- the value of a logged write at or above the floor
abbrev pub value_at_floor : ℕ → List ((List ℕ × ℕ) × Value) → ℕ × (Name × Option Value) → Option Value
value_at_floor floor named l = cond (nat_lt l.0 floor) None (option_or l.1.1 (value_under l.1.0 named))

-- the value of the last of a write and a logged one at a seqnum
abbrev pub value_of_last : Option Write → ℕ → Option Value → Option Value
value_of_last None seq value = value
value_of_last (Some w) seq None = Some w.value
value_of_last (Some w) seq (Some value) = Some (last_value w seq value)

abbrev pub kept_upto : ℕ → KeptObject → Option Write
kept_upto last object = option_or (last_write_below (suc last) 0 object.versions) object.base

-- the value of the last write whose first number is at most `last`
abbrev pub value_upto : ℕ → ℕ → KeptObject → List ((List ℕ × ℕ) × Value) → Option (ℕ × (Name × Option Value)) → Option Value
value_upto floor last object named None = value_of_last (kept_upto last object) 0 None
value_upto floor last object named (Some l) = value_of_last (kept_upto last object) l.0 (value_at_floor floor named l)

-- what a fenced read answers
abbrev pub value_before : ℕ → ℕ → KeptObject → List ((List ℕ × ℕ) × Value) → Option (ℕ × (Name × Option Value)) → Fenced
value_before floor at object named l = cond (at == 0) f.Missing (fenced_answer (value_upto floor (at - 1) object named l))

-- an object with an initial value
abbrev pub opened : Value → KeptObject
opened v = record empty_object { base = Some (write_at 0 0 v) }

-- The objects are those of a store with these initial objects.
pub record HoldsInitialObjects (values : List (List ℕ × Value)) (es : List (List ℕ × KeptObject)) : Type 0 where
  pub finds : (k : List ℕ) → lookup (bytes_eq k) es ≡ option_map opened (lookup (bytes_eq k) values)
  pub total : total es ≡ length values
  pub distinct : IsDistinct bytes_eq (keys_of es)
