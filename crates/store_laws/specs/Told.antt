-- What an object store has to be told of logged writes: where each live one is kept, the last one of a key is
-- covered, and those that a sweep passes have their values.
use Rattle.std.specs.Prelude.{◌≡◌, ℕ, suc, ◌≤◌, List, Option, Some, option_map}
use Rattle.lb_base.specs.declared.value.Value.{Value}
use Rattle.boki_types.specs.declared.body.Body.{Body}
use Rattle.boki_types.specs.declared.store.Name.{Name}
use Rattle.boki_model.specs.Live.{Live, upto}
use Rattle.boki_model.specs.Writes.{Store}
use Rattle.machine_laws.specs.Kept.{WritesHaveValues}
use Rattle.obj_store.specs.declared.answers.Logged.{Logged}
use Rattle.obj_store.specs.Answers.{IsLastLogged, logged_parts}
use Rattle.obj_store.specs.Kept.{StoreState}
use Rattle.obj_store.specs.StandsFor.{StandsFor, last_logged, IsCovered}
use Rattle.obj_store.specs.Sweeps.{AllHaveValues, logged_between}

-- the last live logged write of a key below any number is covered
abbrev pub LoggedAreCovered : Type 0
LoggedAreCovered =
    (kept : StoreState) (m : Store) (records : List (Live Body)) (key : List ℕ) (n : ℕ)
    (logged : ℕ × (Name × Option Value))
    → StandsFor kept m records → WritesHaveValues m.named records
    → last_logged key n records ≡ Some logged → IsCovered key kept logged

-- so to be told which it is, is enough
abbrev pub LastIsTold : Type 0
LastIsTold =
    (kept : StoreState) (m : Store) (records : List (Live Body)) (key : List ℕ) (n : ℕ) (logged : Option Logged)
    → StandsFor kept m records → WritesHaveValues m.named records
    → option_map logged_parts logged ≡ last_logged key n records → IsLastLogged key n kept records logged

-- and an engine that sees the records up to a position tells it for each number up to there
abbrev pub ViewsTellLast : Type 0
ViewsTellLast =
    (records : List (Live Body)) (key : List ℕ) (p n : ℕ) → n ≤ suc p
    → last_logged key n (upto p records) ≡ last_logged key n records

-- the live logged writes from the floor on have their values
abbrev pub SweptHaveValues : Type 0
SweptHaveValues =
    (kept : StoreState) (m : Store) (records : List (Live Body)) (low high : ℕ)
    → StandsFor kept m records → WritesHaveValues m.named records → m.floor ≤ low
    → AllHaveValues kept.named (logged_between low high records)
