-- For which turns and which state of the definitions an execution stands.
use Rattle.std.specs.Prelude.{◌≡◌, ℕ, List, [], ◌∷◌, ◌++◌, Option, Some, None, option_and_then}
use Rattle.lb_base.specs.declared.value.Outcome.{Outcome}
use Rattle.boki_types.specs.declared.program.Function.{Function}
use Rattle.boki_types.specs.declared.operation.Ask.{Ask}
use Rattle.boki_types.specs.declared.turn.Turn.{Turn}
use Rattle.boki_machine.specs.Ideal.{Ideal, apply_turn, running_invocation, invocation_ask}
use Rattle.boki_types.specs.declared.turn.Report.{Report}
use Rattle.boki_machine.specs.Reports.{add_outcome, ideal_report}
use Rattle.ideal_run.specs.declared.kept.KnownInvocation.{KnownInvocation}
use Rattle.ideal_run.specs.Kept.{IdealState}
use Rattle.ideal_run.specs.Standing.{MapsStandFor}

-- The execution has done these turns, and stands for the state m of the definitions.
pub record StandsFor (fs : List Function) (ts : List Turn) (m : Ideal) (kept : IdealState) : Type 0 where
  pub turns : kept.turns ≡ ts
  pub maps : MapsStandFor fs m kept.maps

-- A turn is defined, and the execution stands behind it.
pub record TurnLeadsTo (fs : List Function) (t : Turn) (ts : List Turn) (m : Ideal) (kept : IdealState) : Type 0 where
  pub state : Ideal
  pub is : apply_turn fs t m ≡ Some state
  pub stands : StandsFor fs (ts ++ t ∷ []) state kept

-- The turn is done: for each state that the execution stands for, it is defined.
abbrev pub IsDone : List Function → Turn → IdealState → IdealState → Type 0
IsDone fs t old new = (m : Ideal) (ts : List Turn) → StandsFor fs ts m old → TurnLeadsTo fs t ts m new

-- The turn isn't defined, for no state that the execution stands for.
abbrev pub IsUndefined : List Function → Turn → IdealState → Type 0
IsUndefined fs t kept = (m : Ideal) (ts : List Turn) → StandsFor fs ts m kept → apply_turn fs t m ≡ None

-- The report of the turns done, and of the state that the execution stands for.
abbrev pub IsReportOf : IdealState → Report → Type 0
IsReportOf kept r = (fs : List Function) (m : Ideal) (ts : List Turn) → StandsFor fs ts m kept → r ≡ ideal_report ts m

-- what a running invocation asks, or how its script ended
abbrev pub asked_at : List Function → List ℕ → Ideal → Option Ask
asked_at fs p m = option_and_then (invocation_ask fs p) (running_invocation p m)

-- What is asked at a path in the state that the execution stands for.
abbrev pub IsAsked : IdealState → List ℕ → Option Ask → Type 0
IsAsked kept p asks = (fs : List Function) (m : Ideal) (ts : List Turn) → StandsFor fs ts m kept → asks ≡ asked_at fs p m

-- the results of the invocations that have ended
abbrev pub results_in : List (List ℕ × KnownInvocation) → List (List ℕ × Outcome)
results_in [] = []
results_in (x ∷ xs) = add_outcome x.0 x.1.result (results_in xs)
