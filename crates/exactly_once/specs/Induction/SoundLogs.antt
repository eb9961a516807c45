-- When a log and a store are sound: each live record says what the script of its invocation does next, by what the records
-- behind it and the versions have decided; and each version is the next free write of an invocation. These are the facts that
-- the failure-free execution needs. They are of the whole store, and of one moment: nothing here speaks of attempts.
use Rattle.std.specs.Prelude.{◌≡◌, ℕ, suc, ◌-◌, IsTrue, true, false, List, [], ◌∷◌, length, Option, Some, None, slice_index}
use Rattle.std.specs.List.{AllByRecursion}
use Rattle.lb_base.specs.declared.value.Value.{Value}
use Rattle.lb_base.specs.declared.value.Mode.{Mode}
use Rattle.lb_base.specs.declared.value.Mode.TheVariants.{W}
use Rattle.lb_base.specs.declared.value.Outcome.{Outcome}
use Rattle.boki_types.specs.declared.body.Body.{Body}
use Rattle.boki_types.specs.declared.body.Body.TheVariants as b
use Rattle.boki_types.specs.declared.log.Call.{Call}
use Rattle.boki_types.specs.declared.operation.Op.TheVariants as o
use Rattle.boki_types.specs.declared.operation.Ask.{Ask}
use Rattle.boki_types.specs.declared.operation.Ask.TheVariants as k
use Rattle.boki_types.specs.declared.plan.Setup.{Setup}
use Rattle.boki_types.specs.declared.program.Function.{Function}
use Rattle.boki_types.specs.Finding.{find}
use Rattle.boki_model.specs.Live.{Live, is_live}
use Rattle.boki_model.specs.Bodies.{child, step_of}
use Rattle.boki_model.specs.Modes.{result_of}
use Rattle.boki_model.specs.Writes.{Store, Version, here_or_named, versions_at}
use Rattle.boki_machine.specs.Attempt.{call_of}
use Rattle.boki_machine.specs.Decided.{InvocationState, invocation_state, with_free_answers, asked_at}
use Rattle.exactly_once.specs.FurtherLaws.Words.{versions_with_cursor}

-- how many free operations lie between the last step record of an invocation and that of the index
abbrev pub free_operations_to : ℕ → InvocationState → ℕ
free_operations_to index state = index - suc (length state.answers)

-- An invocation gets to its step record of the index: it has begun and not ended, the operations up to there are free and
-- decided, and in mode W they are all the versions that stand at its cursor.
pub record Reaches (fs : List Function) (store : Store) (records : List (Live Body)) (path : List ℕ) (state : InvocationState) (index : ℕ) : Type 0 where
  pub begun : state.begun ≡ true
  pub unended : state.result ≡ None
  pub decided : suc (length (with_free_answers fs store records path state (free_operations_to index state))) ≡ index
  pub all_versions : state.mode ≡ W → free_operations_to index state ≡ versions_at state.cursor store.versions

-- and there its script asks this
pub record Asks (fs : List Function) (store : Store) (records : List (Live Body)) (path : List ℕ) (state : InvocationState) (index : ℕ) (ask : Ask) : Type 0 where
  pub reaches : Reaches fs store records path state index
  pub asked : asked_at fs path state (with_free_answers fs store records path state (free_operations_to index state)) ≡ Some ask

-- a request is new
pub record MaySubmit (path : List ℕ) (records : List (Live Body)) : Type 0 where
  pub request : path ≡ slice_index path 0 ∷ []
  pub unknown : call_of path records ≡ None

-- an invocation is called, and has not begun
pub record MayBegin (path : List ℕ) (state : InvocationState) (records : List (Live Body)) : Type 0 where
  pub call : Call
  pub called : call_of path records ≡ Some call
  pub new : state.begun ≡ false

-- the value of a logged write stands in its record or under its name
pub record MayWrite (fs : List Function) (store : Store) (records : List (Live Body)) (path : List ℕ) (state : InvocationState) (index place : ℕ) (key : List ℕ) (here : Option Value) : Type 0 where
  pub value : Value
  pub asks : Asks fs store records path state index (k.Op (o.Write key value))
  pub kept : here_or_named here (record { path = path; place = place }) store.named ≡ Some value

-- the child is new, and its function is there
pub record MaySpawn (fs : List Function) (store : Store) (records : List (Live Body)) (path : List ℕ) (state : InvocationState) (index ordinal : ℕ) (name : List ℕ) (args : List Value) : Type 0 where
  pub function : ℕ
  pub asks : Asks fs store records path state index (k.Op (o.Spawn ordinal function args))
  pub found : find name fs ≡ Some function
  pub unknown : call_of (child path ordinal) records ≡ None

-- the child has a result
pub record MayJoin (fs : List Function) (store : Store) (records : List (Live Body)) (path : List ℕ) (state : InvocationState) (index ordinal : ℕ) : Type 0 where
  pub outcome : Outcome
  pub asks : Asks fs store records path state index (k.Op (o.Join ordinal))
  pub result : result_of (child path ordinal) records ≡ Some outcome

-- the commit is of the open transaction
pub record MayCommit (fs : List Function) (store : Store) (records : List (Live Body)) (path : List ℕ) (state : InvocationState) (index begin : ℕ) (names : List (List ℕ)) (writes : List (List ℕ × Value)) : Type 0 where
  pub asks : Asks fs store records path state index (k.Op (o.Commit names writes))
  pub begin_is : state.transaction ≡ Some begin

-- a record may come behind these records
abbrev pub MayFollow : Setup → List Function → Store → List (Live Body) → Body → Type 0
MayFollow setup fs store past (b.Submit p f args) = MaySubmit p past
MayFollow setup fs store past (b.Init p) = MayBegin p (invocation_state setup fs store p past) past
MayFollow setup fs store past (b.Read p i key) = Asks fs store past p (invocation_state setup fs store p past) i (k.Op (o.Read key))
MayFollow setup fs store past (b.Write p i place key here) = MayWrite fs store past p (invocation_state setup fs store p past) i place key here
MayFollow setup fs store past (b.Spawn p i ordinal f args) = MaySpawn fs store past p (invocation_state setup fs store p past) i ordinal f args
MayFollow setup fs store past (b.Join p i ordinal) = MayJoin fs store past p (invocation_state setup fs store p past) i ordinal
MayFollow setup fs store past (b.Push p i queue value) = Asks fs store past p (invocation_state setup fs store p past) i (k.Op (o.Push queue value))
MayFollow setup fs store past (b.Pop p i queue) = Asks fs store past p (invocation_state setup fs store p past) i (k.Op (o.Pop queue))
MayFollow setup fs store past (b.TxnBegin p i names) = Asks fs store past p (invocation_state setup fs store p past) i (k.Op (o.Begin names))
MayFollow setup fs store past (b.TxnCommit p i begin names writes) = MayCommit fs store past p (invocation_state setup fs store p past) i begin names writes
MayFollow setup fs store past (b.Finish p i outcome) = Asks fs store past p (invocation_state setup fs store p past) i (k.Done outcome)
MayFollow setup fs store past (b.ReadGroup p i keys) = Asks fs store past p (invocation_state setup fs store p past) i (k.Op (o.ReadGroup keys))
MayFollow setup fs store past _ = Unit {0}

-- these versions, the newest first, are the next writes of the invocation
abbrev pub AreNextWrites : List Function → Store → List (Live Body) → List ℕ → InvocationState → List Version → Type 0
AreNextWrites fs store records path state [] = Unit {0}
AreNextWrites fs store records path state (v ∷ vs) =
    (v.number ≡ suc (length vs))
    × (asked_at fs path state (with_free_answers fs store records path state (length vs)) ≡ Some (k.Op (o.Write v.key v.value)))
    × AreNextWrites fs store records path state vs

-- versions stand only where an invocation of mode W runs
abbrev pub MayStand : List Function → Store → List (Live Body) → List ℕ → InvocationState → Option Outcome → Mode → List Version → Type 0
MayStand fs store records path state None W vs = AreNextWrites fs store records path state vs
MayStand fs store records path state _ _ vs = vs ≡ []

abbrev pub StandAt : Setup → List Function → Store → List (Live Body) → Option (List ℕ × ℕ) → List Version → Type 0
StandAt setup fs store records None vs = vs ≡ []
StandAt setup fs store records (Some s) vs =
    let state = invocation_state setup fs store s.0 records in MayStand fs store records s.0 state state.result state.mode vs

-- each record may come behind those before it, and the versions at each are what they may be
abbrev pub AllMayFollow : Setup → List Function → Store → List (Live Body) → Type 0
AllMayFollow setup fs store [] = Unit {0}
AllMayFollow setup fs store (x ∷ xs) =
    MayFollow setup fs store xs x.holds
    × StandAt setup fs store (x ∷ xs) (step_of x.holds) (versions_with_cursor x.seq store.versions)
    × AllMayFollow setup fs store xs

pub record IsSound (setup : Setup) (fs : List Function) (store : Store) (records : List (Live Body)) : Type 0 where
  pub fit : AllMayFollow setup fs store records
  -- each version stands at a live record
  pub placed : AllByRecursion (λ v. IsTrue (is_live v.cursor records)) store.versions
