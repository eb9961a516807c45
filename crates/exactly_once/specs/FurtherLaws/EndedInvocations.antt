-- Ended invocations are left alone: where an invocation has its Finish, what its attempts still do changes nothing that any
-- other depends on, and no step record of it becomes live, also among records that one cut orders together.
use Rattle.std.specs.Prelude.{◌≡◌, ℕ, ◌≤◌, false, List, ◌∷◌, ◌++◌, Some, None}
use Rattle.lb_base.specs.declared.value.Value.{Value}
use Rattle.boki_types.specs.declared.body.Body.{Body}
use Rattle.boki_types.specs.declared.body.Body.TheVariants as b
use Rattle.boki_types.specs.declared.line.StepLine.TheVariants as l
use Rattle.boki_types.specs.declared.log.Sent.{Sent}
use Rattle.boki_types.specs.declared.plan.Setup.{Setup}
use Rattle.boki_types.specs.declared.program.Function.{Function}
use Rattle.boki_model.specs.Live.{LogRecord, Live, meets_condition, live}
use Rattle.boki_model.specs.Bodies.{step_of}
use Rattle.boki_model.specs.Writes.{Store, NamedValue, fence, value_under_name}
use Rattle.boki_machine.specs.Attempt.{Attempt}
use Rattle.boki_machine.specs.Step.{step, miss}
use Rattle.boki_machine.specs.Machine.{Machine, log, live_records, view}
use Rattle.exactly_once.specs.FurtherLaws.ModesAndFloors.{IsEnded}
use Rattle.exactly_once.specs.FurtherLaws.StoreBound.{Finishes}
use Rattle.exactly_once.specs.FurtherLaws.Words.{IsAmong, all_records, attempts_of}

-- A live record of this invocation is a write at this place, and holds this value itself.
pub record IsInlineWrite (path : List ℕ) (records : List (Live Body)) (place : ℕ) (value : Value) : Type 0 where
  pub x : Live Body
  pub among : IsAmong x records
  pub index : ℕ
  pub key : List ℕ
  pub is_write : x.holds ≡ b.Write path index place key (Some value)

-- The named values stay, but that a value of the invocation may be put in under a name that is new, where the live write of
-- that name has the same value in its record.
pub data NamedValuesStay (path : List ℕ) (records : List (Live Body)) (old new : List NamedValue) : Type 0 where
  unchanged : new ≡ old → NamedValuesStay path records old new
  one_more : (s : NamedValue) → new ≡ s ∷ old → value_under_name s.name old ≡ None → s.name.path ≡ path → IsInlineWrite path records s.name.place s.value → NamedValuesStay path records old new

-- The store stays, apart from that: each version, the fence of each key, and the floor. The list of what was raised may grow.
pub record StoreStays (path : List ℕ) (records : List (Live Body)) (old new : Store) : Type 0 where
  pub initial : new.initial ≡ old.initial
  pub versions : new.versions ≡ old.versions
  pub fences : (key : List ℕ) → fence key new.fences ≡ fence key old.fences
  pub floor : new.floor ≡ old.floor
  pub named : NamedValuesStay path records old.named new.named

-- a step of an attempt of an ended invocation, and the store call of a step whose answer is lost
pub record StepsStay (setup : Setup) (fs : List Function) (m : Machine) (a : Attempt) : Type 0 where
  pub steps : (at : Sent) → StoreStays a.path (live_records m) m.store (step setup fs m.store (view m a.engine) at a).store
  pub misses : StoreStays a.path (live_records m) m.store (miss setup fs m.store (view m a.engine) a).store

-- Of an invocation's records in the ordered list:
pub record EndIsLast (m : Machine) (path : List ℕ) : Type 0 where
  -- no live step record has a seqnum above its Finish's
  pub last :
      (x end : Live Body) (index : ℕ) → IsAmong x (live_records m)
      → step_of x.holds ≡ Some (path, index) → Finishes path (live_records m) end → x.seq ≤ end.seq
  -- a step record with a Finish among those before it is dead, wherever it stands, whether or not one cut ordered both
  pub dead_behind :
      (newer older : List (LogRecord Body)) (r : LogRecord Body) (index : ℕ)
      → log m ≡ newer ++ r ∷ older
      → IsEnded path (live older) → step_of r.holds ≡ Some (path, index)
      → meets_condition r.condition (live older) ≡ false

pub record EndedHaveNoEffect (setup : Setup) (fs : List Function) (m : Machine) : Type 0 where
  pub stay : (a : Attempt) → IsAmong a (attempts_of m) → IsEnded a.path (live_records m) → StepsStay setup fs m a
  -- whatever step record of it was sent: ordered next, it is dead
  pub dead : (path : List ℕ) → IsEnded path (live_records m) → (r : LogRecord Body) → IsAmong r (all_records m.shards) → (index : ℕ) → step_of r.holds ≡ Some (path, index) → meets_condition r.condition (live_records m) ≡ false
  -- and that the store no longer has what it needs, is said to no other attempt
  pub gone : (a : Attempt) → IsAmong a (attempts_of m) → (at : Sent) → (step setup fs m.store (view m a.engine) at a).line ≡ l.StoppedGone → IsEnded a.path (live_records m)
  -- its Finish is its last live step record
  pub end : (path : List ℕ) → EndIsLast m path
