-- What a cluster keeps, and the machine that it stands for.
use Rattle.std.specs.Prelude.{◌≡◌, ℕ, Bool, true, false, List, [], ◌∷◌, reverse, length, Result, IfOk, IsErr}
use Rattle.std.specs.List.{AllByRecursion}
use Rattle.lb_base.specs.declared.value.Value.{Value}
use Rattle.boki_types.specs.declared.event.Event.{Event}
use Rattle.boki_types.specs.declared.line.Line.{Line}
use Rattle.boki_types.specs.declared.plan.Plan.{Plan}
use Rattle.boki_types.specs.declared.plan.Setup.{Setup}
use Rattle.boki_types.specs.declared.program.Function.{Function}
use Rattle.boki_machine.specs.Machine.{Machine, NumberedAttempt, log, initial_machine, apply_event, apply_events, catch_up_all}
use Rattle.step_laws.specs.Kept.{IsTextEvent}
use Rattle.attempt_state.specs.declared.state.AttemptState.{AttemptState}
use Rattle.attempt_state.specs.Attempts.{AttemptStandsFor}
use Rattle.flow_parts.specs.declared.parts.Parts.{Parts}
use Rattle.cluster_events.specs.Machines.{PartsAreOf}

-- The parts; the attempts by their numbers, in the order in which they were started; and whether a call was cut short, by want of
-- memory, in the middle of an event.
pub record ClusterState : Type 0 where
  pub parts : Parts
  pub attempts : List (ℕ × AttemptState)
  pub marked : Bool

-- each attempt stands for the machine's under its number; both lists in the order of start
abbrev pub AttemptsStandFor : List Function → List NumberedAttempt → List (ℕ × AttemptState) → Type 0
AttemptsStandFor fs [] [] = Unit {0}
AttemptsStandFor fs (x ∷ xs) (e ∷ es) = (x.number ≡ e.0) × AttemptStandsFor fs x.attempt e.1 × AttemptsStandFor fs xs es
AttemptsStandFor fs _ _ = ⊥

-- the machine behind some events that the plan can have, from its initial machine
pub record IsReached (setup : Setup) (fs : List Function) (objects : List (List ℕ × Value)) (m : Machine) : Type 0 where
  pub events : List Event
  pub valid : AllByRecursion (IsTextEvent setup fs) events
  pub is : m ≡ (apply_events setup fs events (initial_machine setup objects)).machine

-- The cluster stands for the machine of a plan with this head.
pub record StandsFor (setup : Setup) (fs : List Function) (objects : List (List ℕ × Value)) (m : Machine) (c : ClusterState) : Type 0 where
  pub are : PartsAreOf setup fs m c.parts
  pub attempts : AttemptsStandFor fs (reverse m.attempts) c.attempts
  -- every law over events holds of it
  pub reached : IsReached setup fs objects m

-- Where it isn't marked it stands for some machine.
pub record StandsForSome (c : ClusterState) : Type 0 where
  pub setup : Setup
  pub functions : List Function
  pub objects : List (List ℕ × Value)
  pub machine : Machine
  pub stands : StandsFor setup functions objects machine c

abbrev pub IsSoundCluster : ClusterState → Type 0
IsSoundCluster c = c.marked ≡ false → StandsForSome c

-- It stands for this machine of a plan with this setup and these functions, whatever the plan's objects are.
pub record StandsForOne (setup : Setup) (fs : List Function) (m : Machine) (c : ClusterState) : Type 0 where
  pub objects : List (List ℕ × Value)
  pub stands : StandsFor setup fs objects m c

-- Where it isn't marked it stands for a machine of this plan: what a call that takes a plan needs.
pub record StandsForPlan (plan : Plan) (c : ClusterState) : Type 0 where
  pub objects : List (List ℕ × Value)
  pub machine : Machine
  pub stands : StandsFor plan.setup plan.program.functions objects machine c

abbrev pub IsOfPlan : Plan → ClusterState → Type 0
IsOfPlan plan c = c.marked ≡ false → StandsForPlan plan c

-- a new cluster of a plan
pub record IsOpened (plan : Plan) (c : ClusterState) : Type 0 where
  pub unmarked : c.marked ≡ false
  pub stands : StandsFor plan.setup plan.program.functions plan.objects (initial_machine plan.setup plan.objects) c

-- An event was done: its line was answered, and the cluster stands for the machine behind it.
pub record IsDone
    (setup : Setup) (fs : List Function) (objects : List (List ℕ × Value)) (event : Event) (m : Machine) (new : ClusterState) (line : Line)
    : Type 0 where
  pub line_is : line ≡ (apply_event setup fs m event).line
  pub stands : StandsFor setup fs objects (apply_event setup fs m event).machine new

-- for every machine that it stood for
abbrev pub DoesEvent : Setup → List Function → Event → ClusterState → ClusterState → Line → Type 0
DoesEvent setup fs event old new line =
    (objects : List (List ℕ × Value)) (m : Machine) → StandsFor setup fs objects m old → IsDone setup fs objects event m new line

-- each engine was caught up, and this is the length of the log
abbrev pub CatchesAllUp : ClusterState → ClusterState → ℕ → Type 0
CatchesAllUp old new n =
    (setup : Setup) (fs : List Function) (objects : List (List ℕ × Value)) (m : Machine) → StandsFor setup fs objects m old
    → (n ≡ length (log m)) × StandsFor setup fs objects (catch_up_all m) new

-- A call is cut short where it answers Memory, and then alone; a cluster in which one was answers Memory to everything.
pub record MarksOnMemory {X E : Type 0} (old new : ClusterState) (result : Result X E) : Type 0 where
  pub on_ok : IfOk result (λ x. (old.marked ≡ false) × (new.marked ≡ false))
  pub on_err : IsErr result → new.marked ≡ true
