-- What an operation does to what is kept.
use Rattle.std.specs.Prelude.{◌≡◌, ◌==◌, ℕ, Bool, false, List, length, map, Option, Some, None, option_and_then}
use Rattle.lb_base.specs.Path.{IsPath, child_path}
use Rattle.lb_base.specs.declared.value.Value.{Value}
use Rattle.lb_base.specs.declared.value.Outcome.{Outcome}
use Rattle.boki_types.specs.declared.program.Function.{Function}
use Rattle.boki_types.specs.declared.operation.Op.{Op}
use Rattle.boki_types.specs.declared.operation.Op.TheVariants as o
use Rattle.boki_types.specs.declared.operation.Answer.{Answer}
use Rattle.boki_types.specs.declared.operation.Answer.TheVariants as a
use Rattle.boki_model.specs.Maps.{get, put}
use Rattle.boki_model.specs.Bodies.{child}
use Rattle.boki_machine.specs.Ideal.{new_invocation}
use Rattle.ideal_run.specs.declared.kept.KnownInvocation.{KnownInvocation}
use Rattle.ideal_run.specs.Kept.{Maps, object_in, name_in, queue_in, push_value, pop_front, front_value, may_commit, committed}
use Rattle.ideal_run.specs.Standing.{FrameStands}

-- whether a function has so many parameters as there are arguments
abbrev pub takes_args : List Value → Option Function → Bool
takes_args args None = false
takes_args args (Some f) = length f.params == length args

-- an invocation that is known anew: its script stands at its start
pub record IsNewInvocation (fs : List Function) (f : ℕ) (args : List Value) (depth : ℕ) (known : KnownInvocation) : Type 0 where
  pub frame : FrameStands fs depth (new_invocation f args) known.frame
  pub result : known.result ≡ None
  pub begun : known.begun ≡ None

-- the child becomes known
pub record AddsChild (fs : List Function) (path : List ℕ) (ordinal f : ℕ) (args : List Value) (x y : Maps) : Type 0 where
  pub known : KnownInvocation
  pub is_child : child_path path ordinal ≡ Some (child path ordinal)
  pub starts : IsNewInvocation fs f args (length (child path ordinal)) known
  pub now : y ≡ record x { invocations = put (child path ordinal) known x.invocations }

-- the result of a child, where it has one
abbrev pub joined_in : List ℕ → ℕ → List (List ℕ × KnownInvocation) → Option Outcome
joined_in path ordinal invocations = option_and_then (λ c. option_and_then (λ k. k.result) (get c invocations)) (child_path path ordinal)

-- the operation leads from x to y with this answer; the transaction was open as first told, and is then as next told
abbrev pub Performs : List Function → List ℕ → Op → Option ℕ → Maps → Answer → Option ℕ → Maps → Type 0
Performs fs path (o.Read key) b x answer c y = (answer ≡ a.Value (object_in x.objects key)) × (c ≡ b) × (y ≡ x)
Performs fs path (o.ReadGroup keys) b x answer c y = (answer ≡ a.Values (map (object_in x.objects) keys)) × (c ≡ b) × (y ≡ x)
Performs fs path (o.Write key v) b x answer c y = (answer ≡ a.Done) × (c ≡ b) × (y ≡ record x { objects = put key v x.objects })
Performs fs path (o.Spawn ordinal f args) b x answer c y = (answer ≡ a.Spawned ordinal) × (c ≡ b) × AddsChild fs path ordinal f args x y
Performs fs path (o.Join ordinal) b x answer c y = ((outcome : Outcome) × (answer ≡ a.Joined outcome) × (joined_in path ordinal x.invocations ≡ Some outcome)) × (c ≡ b) × (y ≡ x)
Performs fs path (o.Push queue v) b x answer c y = (answer ≡ a.Done) × (c ≡ b) × (y ≡ record x { queues = put queue (push_value (queue_in queue x.queues) v) x.queues })
Performs fs path (o.Pop queue) b x answer c y = (answer ≡ a.Value (front_value (queue_in queue x.queues))) × (c ≡ b) × (y ≡ record x { queues = put queue (pop_front (queue_in queue x.queues)) x.queues })
Performs fs path (o.Begin names) b x answer c y = (answer ≡ a.Values (map (name_in x.names) names)) × (c ≡ Some x.commits) × (y ≡ x)
Performs fs path (o.Commit names writes) b x answer c y = (answer ≡ a.Committed (may_commit b names writes x.names)) × (c ≡ None) × (y ≡ committed (may_commit b names writes x.names) writes x)

-- it can't be done: there is no path for the child, or the child has no result
abbrev pub CannotPerform : List ℕ → Op → Maps → Type 0
CannotPerform path (o.Spawn ordinal f args) x = IsPath path × (child_path path ordinal ≡ None)
CannotPerform path (o.Join ordinal) x = IsPath path × (joined_in path ordinal x.invocations ≡ None)
CannotPerform path _ x = ⊥
