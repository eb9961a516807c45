-- Logged writes are kept: each live one has its value, and no two have one name.
use Rattle.std.specs.Prelude.{◌≡◌, ℕ, ◌≤◌, false, IsTrue, List, Option, Some}
use Rattle.lb_base.specs.declared.value.Value.{Value}
use Rattle.boki_types.specs.declared.body.Body.{Body}
use Rattle.boki_types.specs.declared.event.Event.{Event}
use Rattle.boki_types.specs.declared.plan.Setup.{Setup}
use Rattle.boki_types.specs.declared.program.Function.{Function}
use Rattle.boki_types.specs.declared.store.Name.{Name}
use Rattle.boki_model.specs.Live.{Live}
use Rattle.boki_model.specs.Plans.{is_event}
use Rattle.boki_model.specs.Writes.{NamedValue, here_or_named, is_settled}
use Rattle.boki_machine.specs.Machine.{Machine, live_records, view, apply_event}
use Rattle.exactly_once.specs.Induction.EventKeeps.{MachineHolds}
use Rattle.exactly_once.specs.FurtherLaws.StoreBound.{WritesName}

-- a logged write, whose record holds this, has a value: that one, or the one that is kept under its name
pub record WriteHasValue (named : List NamedValue) (name : Name) (here : Option Value) : Type 0 where
  pub value : Value
  pub kept : here_or_named here name named ≡ Some value

-- The logged writes among live records, by the values that are kept under names.
pub record WritesHaveValues (named : List NamedValue) (records : List (Live Body)) : Type 0 where
  pub valued :
      (name : Name) (x : Live Body) (write : WritesName name records x) → WriteHasValue named name write.here
  -- of each name there is one at most
  pub once :
      (name : Name) (x y : Live Body) → WritesName name records x → WritesName name records y → x ≡ y
  -- so the name of one at or above a floor isn't settled there
  pub unsettled :
      (name : Name) (x : Live Body) (floor : ℕ) → WritesName name records x → floor ≤ x.seq
      → is_settled name floor records ≡ false

-- Those of a machine that holds the invariant: of the whole list, and of what each engine sees.
pub record WritesAreKept (m : Machine) : Type 0 where
  pub whole : WritesHaveValues m.store.named (live_records m)
  pub seen : (engine : ℕ) → WritesHaveValues m.store.named (view m engine)

abbrev pub HoldingKeepsWrites : Type 0
HoldingKeepsWrites =
    (setup : Setup) (fs : List Function) (m : Machine) → MachineHolds setup fs m → WritesAreKept m

-- and so behind every event that a plan can have
abbrev pub EventsKeepWrites : Type 0
EventsKeepWrites =
    (setup : Setup) (fs : List Function) (m : Machine) (event : Event)
    → IsTrue (is_event setup fs event) → MachineHolds setup fs m
    → WritesAreKept (apply_event setup fs m event).machine
