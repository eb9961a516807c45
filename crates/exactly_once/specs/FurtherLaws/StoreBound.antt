-- What the store holds, as `held_count` counts it: each key, version and name once; and of an invocation that has ended, no named
-- value whose write lies below the floor.
use Rattle.std.specs.Prelude.{◌≡◌, ℕ, ◌+◌, ◌==◌, ◌&&◌, ◌≤◌, ◌<◌, nat_le, Bool, false, List, [], ◌∷◌, length, Option, bytes_eq}
use Rattle.std.specs.List.{filter, AllByRecursion}
use Rattle.lb_base.specs.declared.value.Value.{Value}
use Rattle.lb_base.specs.declared.value.Outcome.{Outcome}
use Rattle.boki_types.specs.declared.body.Body.{Body}
use Rattle.boki_types.specs.declared.body.Body.TheVariants as b
use Rattle.boki_types.specs.declared.plan.Setup.{Setup}
use Rattle.boki_types.specs.declared.program.Function.{Function}
use Rattle.boki_types.specs.declared.store.Name.{Name}
use Rattle.boki_model.specs.Live.{Live}
use Rattle.boki_model.specs.Writes.{Store, NamedValue, Version, same_name, keys_below, unsettled_values, held_count}
use Rattle.boki_machine.specs.Machine.{Machine, live_records}
use Rattle.exactly_once.specs.FurtherLaws.ModesAndFloors.{IsEnded}
use Rattle.exactly_once.specs.FurtherLaws.Words.{IsAmong}

-- no two elements of a list are the same by a test
abbrev pub NoDuplicates : {A : Type 0} → (A → A → Bool) → List A → Type 0
NoDuplicates same [] = Unit {0}
NoDuplicates same (x ∷ xs) = AllByRecursion (λ y. same x y ≡ false) xs × NoDuplicates same xs

abbrev pub is_same_key : List ℕ × Value → List ℕ × Value → Bool
is_same_key x y = bytes_eq x.0 y.0

abbrev pub is_same_version : Version → Version → Bool
is_same_version u v = bytes_eq u.key v.key && (u.cursor == v.cursor) && (u.number == v.number)

abbrev pub is_same_stored : NamedValue → NamedValue → Bool
is_same_stored s t = same_name s.name t.name

-- a live record is the write of this name
pub record WritesName (name : Name) (records : List (Live Body)) (x : Live Body) : Type 0 where
  pub among : IsAmong x records
  pub index : ℕ
  pub key : List ℕ
  pub here : Option Value
  pub is_write : x.holds ≡ b.Write name.path index name.place key here

-- a live record is the Finish of the path
pub record Finishes (path : List ℕ) (records : List (Live Body)) (x : Live Body) : Type 0 where
  pub among : IsAmong x records
  pub index : ℕ
  pub outcome : Outcome
  pub is_finish : x.holds ≡ b.Finish path index outcome

-- the versions at or above the floor, and the names that aren't settled, which the store holds
abbrev pub versions_held : Store → List Version
versions_held store = filter (λ v. nat_le store.floor v.cursor) store.versions

abbrev pub names_held : Store → List (Live Body) → List NamedValue
names_held store records = unsettled_values store.floor records store.named

-- A named value that the store holds:
pub record IsUnsettled (floor : ℕ) (records : List (Live Body)) (s : NamedValue) : Type 0 where
  -- each live write of its name lies at or above the floor
  pub above : (x : Live Body) → WritesName s.name records x → floor ≤ x.seq
  -- where its invocation has ended there is such a write, and the Finish lies above the floor
  pub written : IsEnded s.name.path records → (x : Live Body) × WritesName s.name records x
  pub unfinished : (x : Live Body) → Finishes s.name.path records x → floor < x.seq

pub record HeldOnce (setup : Setup) (fs : List Function) (m : Machine) : Type 0 where
  -- what the store holds is counted so
  pub counted :
      held_count m.store (live_records m) ≡ length (keys_below m.store.floor m.store (live_records m)) + length (versions_held m.store) + length (names_held m.store (live_records m))
  pub keys : NoDuplicates is_same_key (keys_below m.store.floor m.store (live_records m))
  pub versions : NoDuplicates is_same_version (versions_held m.store)
  pub names : NoDuplicates is_same_stored (names_held m.store (live_records m))
  pub floor : AllByRecursion (λ v. m.store.floor ≤ v.cursor) (versions_held m.store)
  pub open_names : AllByRecursion (IsUnsettled m.store.floor (live_records m)) (names_held m.store (live_records m))
