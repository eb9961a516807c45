-- What turns lead to.
use Rattle.std.specs.Prelude.{◌≡◌, ℕ, true, is_some, List, Option, Some, None, option_and_then, IsTrue}
use Rattle.lb_base.specs.Path.{is_request}
use Rattle.lb_base.specs.declared.value.Outcome.{Outcome}
use Rattle.boki_types.specs.declared.program.Function.{Function}
use Rattle.boki_types.specs.declared.operation.Ask.{Ask}
use Rattle.boki_types.specs.declared.operation.Ask.TheVariants as k
use Rattle.boki_types.specs.declared.turn.Turn.{Turn}
use Rattle.boki_types.specs.declared.turn.Turn.TheVariants as t
use Rattle.boki_model.specs.Maps.{get}
use Rattle.boki_machine.specs.Ideal.{Ideal}
use Rattle.ideal_run.specs.declared.kept.KnownInvocation.{KnownInvocation}
use Rattle.ideal_run.specs.declared.running.Running.{Running}
use Rattle.ideal_run.specs.Kept.{Maps}
use Rattle.ideal_run.specs.Standing.{MapsStandFor, known_of}

-- the definitions lead to a state, and what is kept stands for it
pub record LeadsTo (fs : List Function) (to : Option Ideal) (kept : Maps) : Type 0 where
  pub state : Ideal
  pub is : to ≡ Some state
  pub stands : MapsStandFor fs state kept

-- what is kept leads as the definitions do: where it stands for a state of theirs, they lead on, and it stands for the next one
abbrev pub FollowsStep : List Function → (Ideal → Option Ideal) → Maps → Maps → Type 0
FollowsStep fs to old new = (m : Ideal) → MapsStandFor fs m old → LeadsTo fs (to m) new

-- the definitions lead nowhere
abbrev pub IsUndefinedFor : List Function → (Ideal → Option Ideal) → Maps → Type 0
IsUndefinedFor fs to old = (m : Ideal) → MapsStandFor fs m old → to m ≡ None

-- a path that is known stays known
abbrev pub StaysKnown : List ℕ → Maps → Maps → Type 0
StaysKnown path old new = is_some (get path old.invocations) ≡ true → is_some (get path new.invocations) ≡ true

-- a submit has the number of a request
abbrev pub HasRequest : Turn → Type 0
HasRequest (t.Submit request f args) = IsTrue (is_request request)
HasRequest (t.Go path n) = Unit {0}
HasRequest (t.End path) = Unit {0}

-- a known invocation without a result
abbrev pub unless_done : KnownInvocation → Option Outcome → Option KnownInvocation
unless_done w None = Some w
unless_done w (Some outcome) = None

abbrev pub running_in : Option KnownInvocation → Option KnownInvocation
running_in o = option_and_then (λ w. unless_done w w.result) o

-- an invocation that runs, as a turn runs it; or, where it has no frame, as it is
abbrev pub RunsAs : Option KnownInvocation → Option Running → Type 0
RunsAs o None = (w : KnownInvocation) × (running_in o ≡ Some w) × (w.frame ≡ None)
RunsAs o (Some r) = o ≡ Some (known_of r)

-- the outcome of a script that is done
abbrev pub outcome_of : Ask → Option Outcome
outcome_of (k.Op op) = None
outcome_of (k.Done outcome) = Some outcome

abbrev pub ask_in : Option KnownInvocation → Option Ask
ask_in o = option_and_then (λ w. option_and_then (λ f. Some f.ask) w.frame) (running_in o)

abbrev pub ending_in : Option KnownInvocation → Option Outcome
ending_in o = option_and_then outcome_of (ask_in o)

-- an invocation that has ended
abbrev pub with_result : Outcome → KnownInvocation → KnownInvocation
with_result outcome w = record w { frame = None; result = Some outcome }
