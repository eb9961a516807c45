-- What an event does to the parts and the attempts of a cluster.
use Rattle.std.specs.Prelude.{◌≡◌, ℕ, List, reverse, IsTrue}
use Rattle.boki_types.specs.declared.event.Event.{Event}
use Rattle.boki_types.specs.declared.line.Line.{Line}
use Rattle.boki_types.specs.declared.plan.Setup.{Setup}
use Rattle.boki_types.specs.declared.program.Function.{Function}
use Rattle.boki_model.specs.Plans.{is_event}
use Rattle.boki_machine.specs.Machine.{Machine, apply_event}
use Rattle.attempt_state.specs.declared.state.AttemptState.{AttemptState}
use Rattle.step_laws.specs.Kept.{IsTextEvent}
use Rattle.flow_parts.specs.declared.parts.Parts.{Parts}
use Rattle.cluster_events.specs.Machines.{PartsAreOf}
use Rattle.cluster_run.specs.Clusters.{AttemptsStandFor}

-- The parts and the attempts are those of a machine that a cluster keeps.
pub record AllAreOf (setup : Setup) (fs : List Function) (m : Machine) (parts : Parts) (attempts : List (ℕ × AttemptState)) : Type 0 where
  pub are : PartsAreOf setup fs m parts
  pub stand : AttemptsStandFor fs (reverse m.attempts) attempts

-- The event is one that the plan of such a machine can have: what each event needs.
pub record CanDoAll (fs : List Function) (event : Event) (parts : Parts) (attempts : List (ℕ × AttemptState)) : Type 0 where
  pub setup : Setup
  pub machine : Machine
  pub valid : IsTrue (is_event setup fs event)
  pub all : AllAreOf setup fs machine parts attempts

-- An event was done: its line was answered, and the parts and the attempts are those of the machine behind it.
pub record IsAllDone
    (setup : Setup) (fs : List Function) (event : Event) (m : Machine) (new : Parts) (attempts : List (ℕ × AttemptState)) (line : Line)
    : Type 0 where
  pub line_is : line ≡ (apply_event setup fs m event).line
  pub all : AllAreOf setup fs (apply_event setup fs m event).machine new attempts
  pub text : IsTextEvent setup fs event

-- for every machine whose parts and attempts they were
abbrev pub DoesAll :
    List Function → Event → Parts → Parts → List (ℕ × AttemptState) → List (ℕ × AttemptState) → Line → Type 0
DoesAll fs event old new before after line =
    (setup : Setup) (m : Machine) → IsTrue (is_event setup fs event) → AllAreOf setup fs m old before
    → IsAllDone setup fs event m new after line

-- What an event that touches nothing but attempts does to them, for every machine whose they were.
pub record IsDoneToAttempts
    (setup : Setup) (fs : List Function) (event : Event) (m : Machine) (attempts : List (ℕ × AttemptState)) (line : Line)
    : Type 0 where
  pub line_is : line ≡ (apply_event setup fs m event).line
  pub stand : AttemptsStandFor fs (reverse (apply_event setup fs m event).machine.attempts) attempts

abbrev pub DoesToAttempts : Event → List (ℕ × AttemptState) → List (ℕ × AttemptState) → Line → Type 0
DoesToAttempts event before after line =
    (setup : Setup) (fs : List Function) (m : Machine) → IsTrue (is_event setup fs event)
    → AttemptsStandFor fs (reverse m.attempts) before → IsDoneToAttempts setup fs event m after line
