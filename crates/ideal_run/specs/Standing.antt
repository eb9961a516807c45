-- For which state of the definitions a state stands. Running invocations are told of beside it.
use Rattle.std.specs.Prelude.{◌≡◌, ◌≤◌, ℕ, List, map, length, Option, Some, None}
use Rattle.lb_base.specs.declared.value.Outcome.{Outcome}
use Rattle.boki_types.specs.declared.program.Function.{Function}
use Rattle.boki_model.specs.Maps.{get, put, has}
use Rattle.boki_model.specs.MapLaws.{InOrder}
use Rattle.boki_model.specs.Script.{next_ask}
use Rattle.boki_machine.specs.Ideal.{Ideal, Invocation, Dirty}
use Rattle.script_run.specs.Frames as frame
use Rattle.ideal_run.specs.declared.kept.Queue.{Queue}
use Rattle.ideal_run.specs.declared.kept.Stored.{Stored}
use Rattle.ideal_run.specs.declared.kept.KnownInvocation.{KnownInvocation}
use Rattle.ideal_run.specs.declared.running.Running.{Running}
use Rattle.ideal_run.specs.Kept.{Maps, unpopped_values, commit_of, is_dirty}

-- a map with each value changed
abbrev pub map_values : {V W : Type 0} → (V → W) → List (List ℕ × V) → List (List ℕ × W)
map_values f es = map (λ e. (e.0, f e.1)) es

-- The frame stands where the script of an invocation at this depth stands. There is none where the program has no such function
-- of so many arguments: then nothing is asked.
abbrev pub FrameStands : List Function → ℕ → Invocation → Option frame.FrameState → Type 0
FrameStands fs depth i None = next_ask fs i.function i.args depth i.answers ≡ None
FrameStands fs depth i (Some f) = frame.FrameStandsFor fs i.function i.args depth i.answers f

-- An invocation that runs keeps where its script stands, and one that has this result keeps nothing of it.
abbrev pub KeepsFrame : List Function → ℕ → Invocation → Option Outcome → Option frame.FrameState → Type 0
KeepsFrame fs depth i None f = FrameStands fs depth i f
KeepsFrame fs depth i (Some outcome) f = f ≡ None

-- In an open transaction a name is dirty exactly where a commit behind its begin wrote it.
abbrev pub TransactionStands : List (List ℕ × Stored) → ℕ → Option ℕ → Option Dirty → Type 0
TransactionStands names commits None None = Unit {0}
TransactionStands names commits (Some begun) (Some dirty) = (begun ≤ commits) × ((name : List ℕ) → has name dirty ≡ is_dirty begun names name)
TransactionStands names commits _ _ = ⊥

pub record KnownStands (fs : List Function) (names : List (List ℕ × Stored)) (commits : ℕ) (depth : ℕ) (known : KnownInvocation) (i : Invocation) : Type 0 where
  pub frame : KeepsFrame fs depth i known.result known.frame
  pub result : known.result ≡ i.result
  pub transaction : TransactionStands names commits known.begun i.transaction

-- both are known, or none is
abbrev pub BothStand : List Function → List (List ℕ × Stored) → ℕ → ℕ → Option KnownInvocation → Option Invocation → Type 0
BothStand fs names commits depth None None = Unit {0}
BothStand fs names commits depth (Some known) (Some i) = KnownStands fs names commits depth known i
BothStand fs names commits depth _ _ = ⊥

-- What is kept stands for the state m of the definitions, for a program with these functions: it has the same objects, queues and
-- store names, and the same invocations, each where its script stands. No commit has a number above that of the last one.
pub record MapsStandFor (fs : List Function) (m : Ideal) (kept : Maps) : Type 0 where
  pub objects : kept.objects ≡ m.objects
  pub queues : map_values unpopped_values kept.queues ≡ m.queues
  pub fronts : (name : List ℕ) (q : Queue) → get name kept.queues ≡ Some q → q.front ≤ length q.values
  pub names : map_values (λ s. s.value) kept.names ≡ m.names
  pub numbered : (name : List ℕ) → commit_of name kept.names ≤ kept.commits
  pub invocations : (path : List ℕ) → BothStand fs kept.names kept.commits (length path) (get path kept.invocations) (get path m.invocations)
  pub in_order : InOrder m.invocations

-- an invocation that a turn runs, as it is kept
abbrev pub known_of : Running → KnownInvocation
known_of r = record { frame = Some r.frame; result = None; begun = r.begun }

-- what is kept, with an invocation as a turn runs it
abbrev pub with_running : List ℕ → Running → Maps → Maps
with_running path r kept = record kept { invocations = put path (known_of r) kept.invocations }
