-- What a step of an attempt needs of the records that its engine sees, of the store and of the attempt, however they came about.
use Rattle.std.specs.Prelude.{◌≡◌, ℕ, zero, suc, ◌≤◌, ◌<◌, true, List, [], Option, Some, unwrap_or, IsTrue}
use Rattle.std.specs.List.{list_all}
use Rattle.lb_base.specs.declared.value.Value.{Value}
use Rattle.boki_types.specs.declared.body.Body.{Body}
use Rattle.boki_types.specs.declared.line.Life.TheVariants.{Running}
use Rattle.boki_types.specs.declared.log.Call.{Call}
use Rattle.boki_types.specs.declared.operation.Op.{Op}
use Rattle.boki_types.specs.declared.operation.Op.TheVariants as o
use Rattle.boki_types.specs.declared.operation.Ask.{Ask}
use Rattle.boki_types.specs.declared.operation.Ask.TheVariants as k
use Rattle.boki_types.specs.declared.plan.Setup.{Setup}
use Rattle.boki_types.specs.declared.program.Function.{Function}
use Rattle.boki_model.specs.Live.{Live, upto}
use Rattle.boki_model.specs.Reads.{nth}
use Rattle.boki_model.specs.Bodies.{step_tag, step_of, is_u64, is_value, is_optional_value, in_range}
use Rattle.boki_model.specs.Writes.{Store, is_settled}
use Rattle.boki_machine.specs.Attempt.{Attempt, next_index, call_of}
use Rattle.boki_machine.specs.Step.{attempt_ask, has_index, next_write_name}
use Rattle.boki_machine.specs.Machine.{Machine, live_records, position}
use Rattle.exactly_once.specs.FurtherLaws.Words.{IsAmong, attempts_of}
use Rattle.script_ranges.specs.Asks.{AreFunctions}
use Rattle.script_ranges.specs.Ranged.{AttemptInRange}
use Rattle.script_ranges.specs.Sends.{CallFits, body_of_ask}
use Rattle.machine_laws.specs.Adopts.{AdoptsAsked}
use Rattle.machine_laws.specs.Children.{HasPath}
use Rattle.machine_laws.specs.Ends.{EndsLast}
use Rattle.machine_laws.specs.Kept.{WritesHaveValues}
use Rattle.step_laws.specs.Kept.{IsEngine, MachineIsKept}

-- What the attempt asks next can be sent and answered.
pub record CanAsk (fs : List Function) (a : Attempt) : Type 0 where
  -- Its record is in range, where the index of the attempt's next operation has 64 bits; of a write also with a value in it.
  pub sends :
      (ask : Ask) (here : Option Value) → attempt_ask fs a ≡ Some ask → IsTrue (is_u64 (next_index a.answers))
      → IsTrue (is_optional_value here)
      → IsTrue (in_range (body_of_ask fs a.path (next_index a.answers) a.place here (unwrap_or a.transaction 0) ask))
  -- what is written is a value
  pub writes : (key : List ℕ) (v : Value) → attempt_ask fs a ≡ Some (k.Op (o.Write key v)) → IsTrue (is_value v)
  -- a child that is spawned or joined has a path
  pub children : (op : Op) → attempt_ask fs a ≡ Some (k.Op op) → HasPath a.path op

-- the call of an invocation is among these live records
pub record SeesCall (path : List ℕ) (view : List (Live Body)) : Type 0 where
  pub call : Call
  pub called : call_of path view ≡ Some call

-- What its engine sees, at a position in these live records, is what the attempt goes by.
pub record CanAdopt (fs : List Function) (store : Store) (view : List (Live Body)) (a : Attempt) : Type 0 where
  -- the call of its invocation is of a function, with as many arguments as that has parameters
  pub calls : (call : Call) → call_of a.path view ≡ Some call → CallFits fs call.function call.args
  pub args : (call : Call) → call_of a.path view ≡ Some call → IsTrue (list_all is_value call.args)
  -- where it runs and has adopted its Init, its call is there
  pub called : (place : ℕ) → a.life ≡ Running → a.place ≡ suc place → SeesCall a.path view
  -- an invocation's Finish is its last step record
  pub ends : (path : List ℕ) → EndsLast path view
  -- the record at its place that has the index of its next operation is of that operation, and answers it
  pub adopts :
      (place : ℕ) (x : Live Body) (op : Op) → a.place ≡ suc place → nth (step_tag a.path) a.place view ≡ Some x
      → has_index (next_index a.answers) (step_of x.holds) ≡ true → attempt_ask fs a ≡ Some (k.Op op)
      → AdoptsAsked fs store view a x op

-- What the attempt does to the store, it may.
pub record CanStore (store : Store) (records : List (Live Body)) (position : ℕ) (a : Attempt) : Type 0 where
  -- each live logged write has its value, in its record or under its name, and no two have one name
  pub kept : WritesHaveValues store.named records
  -- while it runs its cursor is among what its engine sees
  pub cursor : a.life ≡ Running → a.cursor ≤ position
  -- the name of its next write is settled only where its cursor is below the floor
  pub settled : is_settled (next_write_name a) store.floor records ≡ true → a.cursor < store.floor

-- All of it: of an attempt of a setup with these functions, by the store, the live records and its engine's position.
pub record CanStep (setup : Setup) (fs : List Function) (store : Store) (records : List (Live Body)) (position : ℕ) (a : Attempt)
    : Type 0 where
  pub program : AreFunctions fs
  pub engine : IsEngine setup a.engine
  -- its path, its arguments and answers are in range, its function takes the arguments, and no counter of it is above its index
  pub range : AttemptInRange fs a
  -- before it adopts its Init it has no answers
  pub begins : a.place ≡ zero → a.answers ≡ []
  pub asks : CanAsk fs a
  pub sees : CanAdopt fs store (upto position records) a
  pub may : CanStore store records position a

-- So it is of each attempt of a machine that is kept.
abbrev pub AttemptsCanStep : Type 0
AttemptsCanStep =
    (setup : Setup) (fs : List Function) (m : Machine) (a : Attempt)
    → MachineIsKept setup fs m → IsAmong a (attempts_of m)
    → CanStep setup fs m.store (live_records m) (position m a.engine) a
