-- What a cluster keeps of its machine: every event that a plan can have keeps it.
use Rattle.std.specs.Prelude.{ℕ, ◌≤◌, ◌<◌, ◌^◌, List, length, IsTrue}
use Rattle.std.specs.List.{AllByRecursion}
use Rattle.lb_base.specs.declared.value.Value.{Value}
use Rattle.boki_types.specs.declared.event.Event.{Event}
use Rattle.boki_types.specs.declared.plan.Setup.{Setup}
use Rattle.boki_types.specs.declared.program.Function.{Function}
use Rattle.boki_model.specs.Plans.{is_event, are_objects}
use Rattle.boki_machine.specs.Machine.{Machine, initial_machine, apply_event, apply_events}
use Rattle.exactly_once.specs.Induction.EventKeeps.{MachineHolds}
use Rattle.script_ranges.specs.Asks.{AreFunctions}
use Rattle.script_ranges.specs.Ranged.{IsRanged, has_bytes, NumbersHaveRoom}
use Rattle.machine_laws.specs.Texts.{HasUtf8Texts, EventIsUtf8}

-- one of the engines of the setup
pub record IsEngine (setup : Setup) (engine : ℕ) : Type 0 where
  pub from_one : 1 ≤ engine
  pub within : engine ≤ setup.engines

pub record MachineIsKept (setup : Setup) (fs : List Function) (m : Machine) : Type 0 where
  pub program : AreFunctions fs
  -- the invariant of the central theorem
  pub holds : MachineHolds setup fs m
  -- what was ever sent, the store's values and the attempts are in range
  pub ranged : IsRanged fs m
  -- attempts run on engines that there are
  pub engines : AllByRecursion (λ x. IsEngine setup x.attempt.engine) m.attempts
  -- what users wrote is text
  pub texts : HasUtf8Texts m

abbrev pub InitialMachineIsKept : Type 0
InitialMachineIsKept =
    (setup : Setup) (fs : List Function) (objects : List (List ℕ × Value)) → AreFunctions fs → IsTrue (are_objects objects)
    → MachineIsKept setup fs (initial_machine setup objects)

-- an event that a plan can have, whose text is text
pub record IsTextEvent (setup : Setup) (fs : List Function) (event : Event) : Type 0 where
  pub valid : IsTrue (is_event setup fs event)
  pub bytes : IsTrue (has_bytes event)
  pub text : EventIsUtf8 event

abbrev pub EventsKeepMachine : Type 0
EventsKeepMachine =
    (setup : Setup) (fs : List Function) (m : Machine) (event : Event) → IsTextEvent setup fs event → NumbersHaveRoom m event
    → MachineIsKept setup fs m → MachineIsKept setup fs (apply_event setup fs m event).machine

abbrev pub ReachedAreKept : Type 0
ReachedAreKept =
    (setup : Setup) (fs : List Function) (objects : List (List ℕ × Value)) (events : List Event)
    → AreFunctions fs → IsTrue (are_objects objects) → AllByRecursion (IsTextEvent setup fs) events → length events < 2 ^ 64
    → MachineIsKept setup fs (apply_events setup fs events (initial_machine setup objects)).machine
