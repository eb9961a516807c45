-- The invariant: what holds in every state of the machine, of its ordered list, all records that were ever sent, the object
-- store, the attempts and the engines' positions. It says nothing of shards, replicas or vectors: any record that was sent may
-- be ordered next, in any order. Each fact about an invocation is said at a seqnum c, of the records up to c, since these never
-- change.
use Rattle.std.specs.Prelude.{◌≡◌, ◌⊎◌, ℕ, suc, ◌+◌, ◌-◌, ◌≤◌, ◌<◌, Bool, true, false, List, [], ◌∷◌, length, Option, Some, None, slice_index, bytes_eq, if◌then◌else◌}
use Rattle.std.specs.List.{AllByRecursion}
use Rattle.lb_base.specs.declared.value.Value.{Value}
use Rattle.lb_base.specs.declared.value.Mode.{Mode}
use Rattle.lb_base.specs.declared.value.Mode.TheVariants.{R, W, T}
use Rattle.lb_base.specs.declared.value.Outcome.{Outcome}
use Rattle.lb_base.specs.declared.value.Cond.{Cond}
use Rattle.boki_types.specs.declared.body.Body.{Body}
use Rattle.boki_types.specs.declared.body.Body.TheVariants as b
use Rattle.boki_types.specs.declared.line.Life.{Life}
use Rattle.boki_types.specs.declared.line.Life.TheVariants.{Running}
use Rattle.boki_types.specs.declared.operation.Op.TheVariants as o
use Rattle.boki_types.specs.declared.operation.Ask.{Ask}
use Rattle.boki_types.specs.declared.operation.Ask.TheVariants as k
use Rattle.boki_types.specs.declared.operation.Answer.{Answer}
use Rattle.boki_types.specs.declared.plan.Setup.{Setup}
use Rattle.boki_types.specs.declared.program.Function.{Function}
use Rattle.boki_types.specs.Finding.{find}
use Rattle.boki_model.specs.Live.{LogRecord, Live, live, upto}
use Rattle.boki_model.specs.Bodies.{child, step_of, call_tag}
use Rattle.boki_model.specs.TagLaws.{first_with_tag}
use Rattle.boki_model.specs.Modes.{result_of}
use Rattle.boki_model.specs.Floor.{floor}
use Rattle.boki_model.specs.Writes.{Store, NamedValue, KeyFence, fence, value_under_name, version_value}
use Rattle.boki_machine.specs.Attempt.{Attempt}
use Rattle.boki_machine.specs.Decided.{InvocationState, invocation_state, with_free_answers, asked_at}
use Rattle.exactly_once.specs.FurtherLaws.Words.{versions_with_cursor, values_only, IsAmong}
use Rattle.exactly_once.specs.Induction.SoundLogs.{Asks, MayBegin, MayWrite, MayCommit, IsSound}
use Rattle.exactly_once.specs.FurtherLaws.StepRecords.{IsWellFormed, place_condition}

-- a state, apart from shards and vectors; `log` has the newest first, and `sent` all records that were ever sent, in any order
pub record World : Type 0 where
  pub log : List (LogRecord Body)
  pub sent : List (LogRecord Body)
  pub store : Store
  pub attempts : List Attempt
  pub positions : List ℕ

abbrev pub records : World → List (Live Body)
records w = live w.log

-- Fences.

-- the marked reads of an invocation, each key with its seqnum
abbrev pub marked_reads_at : ℕ → List (List ℕ) → List KeyFence → List KeyFence
marked_reads_at seq [] others = others
marked_reads_at seq (key ∷ keys) others = record { key = key; at = seq } ∷ marked_reads_at seq keys others

abbrev pub marked_reads_by : List ℕ → ℕ → Body → List KeyFence → List KeyFence
marked_reads_by path seq (b.Read p i key) others = if bytes_eq path p then marked_reads_at seq (key ∷ []) others else others
marked_reads_by path seq (b.ReadGroup p i keys) others = if bytes_eq path p then marked_reads_at seq keys others else others
marked_reads_by path seq _ others = others

abbrev pub marked_reads : List ℕ → List (Live Body) → List KeyFence
marked_reads path [] = []
marked_reads path (x ∷ xs) = marked_reads_by path x.seq x.holds (marked_reads path xs)

-- each of them has its fence: only a marker that no attempt has adopted may lack it
abbrev pub AreFenced : List KeyFence → List KeyFence → Type 0
AreFenced fences marked_reads = AllByRecursion (λ m. m.at ≤ fence m.key fences) marked_reads

-- an operation is logged only where it isn't free: in mode R no read is, and in mode W a write only where it is late
abbrev pub MayLog : List KeyFence → Mode → ℕ → Ask → Type 0
MayLog fences R cursor (k.Op (o.Read key)) = ⊥
MayLog fences R cursor (k.Op (o.ReadGroup keys)) = ⊥
MayLog fences W cursor (k.Op (o.Write key value)) = cursor < fence key fences
MayLog fences _ cursor _ = Unit {0}

-- an invocation asks an operation that is logged, or ends
pub record AsksLogged (fs : List Function) (store : Store) (fences : List KeyFence) (behind : List (Live Body)) (path : List ℕ) (state : InvocationState) (index : ℕ) (ask : Ask) : Type 0 where
  pub asks : Asks fs store behind path state index ask
  pub may_log : MayLog fences state.mode state.cursor ask
  pub fenced : AreFenced fences (marked_reads path behind)

-- Records. A step record is of what its invocation does next behind the records up to c: `behind` has these, and `now` all.
-- What it needs of another invocation, the result of a child, is there now; that a child is new is shown when it is ordered.
abbrev pub IsNext : Setup → List Function → Store → List KeyFence → List (Live Body) → List (Live Body) → Body → Type 0
IsNext setup fs store fences behind now (b.Init p) = MayBegin p (invocation_state setup fs store p behind) behind
IsNext setup fs store fences behind now (b.Read p i key) = AsksLogged fs store fences behind p (invocation_state setup fs store p behind) i (k.Op (o.Read key))
IsNext setup fs store fences behind now (b.Write p i place key here) =
    (may : MayWrite fs store behind p (invocation_state setup fs store p behind) i place key here)
    × (place ≡ (invocation_state setup fs store p behind).place)
    × AsksLogged fs store fences behind p (invocation_state setup fs store p behind) i (k.Op (o.Write key may.value))
IsNext setup fs store fences behind now (b.Spawn p i ordinal name args) =
    (function : ℕ) × (find name fs ≡ Some function) × AsksLogged fs store fences behind p (invocation_state setup fs store p behind) i (k.Op (o.Spawn ordinal function args))
IsNext setup fs store fences behind now (b.Join p i ordinal) =
    AsksLogged fs store fences behind p (invocation_state setup fs store p behind) i (k.Op (o.Join ordinal)) × ((outcome : Outcome) × (result_of (child p ordinal) now ≡ Some outcome))
IsNext setup fs store fences behind now (b.Push p i queue value) = AsksLogged fs store fences behind p (invocation_state setup fs store p behind) i (k.Op (o.Push queue value))
IsNext setup fs store fences behind now (b.Pop p i queue) = AsksLogged fs store fences behind p (invocation_state setup fs store p behind) i (k.Op (o.Pop queue))
IsNext setup fs store fences behind now (b.TxnBegin p i names) = AsksLogged fs store fences behind p (invocation_state setup fs store p behind) i (k.Op (o.Begin names))
IsNext setup fs store fences behind now (b.TxnCommit p i begin names writes) =
    MayCommit fs store behind p (invocation_state setup fs store p behind) i begin names writes × AsksLogged fs store fences behind p (invocation_state setup fs store p behind) i (k.Op (o.Commit names writes))
IsNext setup fs store fences behind now (b.Finish p i outcome) = AsksLogged fs store fences behind p (invocation_state setup fs store p behind) i (k.Done outcome)
IsNext setup fs store fences behind now (b.ReadGroup p i keys) = AsksLogged fs store fences behind p (invocation_state setup fs store p behind) i (k.Op (o.ReadGroup keys))
IsNext setup fs store fences behind now _ = Unit {0}

-- a step record in flight, or ordered; n is the length of the ordered list
pub record IsStepRecord (setup : Setup) (fs : List Function) (store : Store) (fences : List KeyFence) (n : ℕ) (now : List (Live Body)) (path : List ℕ) (condition : Option Cond) (body : Body) : Type 0 where
  pub c : ℕ
  pub within : c ≤ n
  pub place : condition ≡ place_condition path (invocation_state setup fs store path (upto c now)).place
  pub next : IsNext setup fs store fences (upto c now) now body

abbrev pub SentOfKind : Setup → List Function → Store → List KeyFence → ℕ → List (Live Body) → Option Cond → Body → Option (List ℕ × ℕ) → Type 0
SentOfKind setup fs store fences n now condition body (Some s) = IsStepRecord setup fs store fences n now s.0 condition body
SentOfKind setup fs store fences n now condition (b.Submit p f args) None = condition ≡ first_with_tag (call_tag p)
SentOfKind setup fs store fences n now condition _ None = Unit {0}

-- a record that was sent
pub record IsSentRecord (setup : Setup) (fs : List Function) (store : Store) (fences : List KeyFence) (n : ℕ) (now : List (Live Body)) (r : LogRecord Body) : Type 0 where
  pub own : IsWellFormed r
  pub kind : SentOfKind setup fs store fences n now r.condition r.holds (step_of r.holds)

-- Of the live records: the marked reads behind a step record have their fences, and so have those up to a version.
abbrev pub FencedBehind : List KeyFence → Option (List ℕ × ℕ) → List (Live Body) → Type 0
FencedBehind fences None past = Unit {0}
FencedBehind fences (Some s) past = AreFenced fences (marked_reads s.0 past)

abbrev pub AllFenced : Store → List KeyFence → List (Live Body) → Type 0
AllFenced store fences [] = Unit {0}
AllFenced store fences (x ∷ xs) =
    FencedBehind fences (step_of x.holds) xs
    × ((versions_with_cursor x.seq store.versions ≡ []) ⊎ FencedBehind fences (step_of x.holds) (x ∷ xs))
    × AllFenced store fences xs

-- Values under names. Each is that of an asked write: behind the records up to c the invocation asked this write at this place, as its operation
-- of the index, where it isn't free. So a name has one value, whoever stores it.
pub record IsAskedWrite (setup : Setup) (fs : List Function) (store : Store) (fences : List KeyFence) (n : ℕ) (now : List (Live Body)) (s : NamedValue) : Type 0 where
  pub c : ℕ
  pub within : c ≤ n
  pub key : List ℕ
  pub index : ℕ
  pub place : s.name.place ≡ (invocation_state setup fs store s.name.path (upto c now)).place
  pub asks : AsksLogged fs store fences (upto c now) s.name.path (invocation_state setup fs store s.name.path (upto c now)) index (k.Op (o.Write key s.value))

-- Attempts.

-- an attempt that has adopted no record
pub record IsFresh (a : Attempt) : Type 0 where
  pub place : a.place ≡ 0
  pub cursor : a.cursor ≡ 0
  pub answers : a.answers ≡ []
  pub free_writes : a.free_writes ≡ 0
  pub stored : a.stored ≡ false
  pub late : a.late ≡ false
  pub transaction : a.transaction ≡ None

-- what it knows of its next write: that its value is stored, or that it is late
abbrev pub KnowsStored : List Function → Store → List ℕ → InvocationState → List Answer → Bool → Type 0
KnowsStored fs store path state answers false = Unit {0}
KnowsStored fs store path state answers true =
    (key : List ℕ) × (value : Value) × (asked_at fs path state answers ≡ Some (k.Op (o.Write key value))) × (value_under_name (record { path = path; place = state.place }) store.named ≡ Some value)

abbrev pub KnowsLate : List Function → Store → List KeyFence → List ℕ → InvocationState → List Answer → ℕ → Bool → Type 0
KnowsLate fs store fences path state answers free false = Unit {0}
KnowsLate fs store fences path state answers free true =
    (key : List ℕ) × (value : Value) × (state.mode ≡ W) × (asked_at fs path state answers ≡ Some (k.Op (o.Write key value)))
    × (version_value key state.cursor (suc free) store.versions ≡ None) × (state.cursor < fence key fences)

-- its k counts its free writes; where an operation is free at all
abbrev pub CountsFreeWrites : Mode → ℕ → ℕ → Type 0
CountsFreeWrites R count free = count ≡ 0
CountsFreeWrites W count free = count ≡ free
CountsFreeWrites T count free = count ≡ 0

-- An attempt that has adopted its Init stands where the records up to its cursor put its invocation, with so many free
-- operations more, all of them decided.
pub record Follows (setup : Setup) (fs : List Function) (store : Store) (fences : List KeyFence) (behind : List (Live Body)) (a : Attempt) : Type 0 where
  pub begun : (invocation_state setup fs store a.path behind).begun ≡ true
  pub unended : (invocation_state setup fs store a.path behind).result ≡ None
  pub cursor : (invocation_state setup fs store a.path behind).cursor ≡ a.cursor
  pub place : (invocation_state setup fs store a.path behind).place ≡ a.place
  pub mode : (invocation_state setup fs store a.path behind).mode ≡ a.mode
  pub function : (invocation_state setup fs store a.path behind).function ≡ a.function
  pub args : (invocation_state setup fs store a.path behind).args ≡ a.args
  pub transaction : (invocation_state setup fs store a.path behind).transaction ≡ a.transaction
  pub fenced : AreFenced fences (marked_reads a.path behind)
  pub free : ℕ
  pub answers : a.answers ≡ with_free_answers fs store behind a.path (invocation_state setup fs store a.path behind) free
  pub decided : length a.answers ≡ free + length (invocation_state setup fs store a.path behind).answers
  pub counts : CountsFreeWrites a.mode a.free_writes free
  pub stored : KnowsStored fs store a.path (invocation_state setup fs store a.path behind) a.answers a.stored
  pub late : KnowsLate fs store fences a.path (invocation_state setup fs store a.path behind) a.answers free a.late
  -- in mode W only a late write has its value stored
  pub stored_late : a.stored ≡ true → a.mode ≡ W → a.late ≡ true

abbrev pub position_of : List ℕ → ℕ → ℕ
position_of positions engine = slice_index positions (engine - 1)

-- one that runs has adopted nothing that its engine doesn't see
abbrev pub SeesCursor : ℕ → ℕ → Life → Type 0
SeesCursor cursor position Running = cursor ≤ position
SeesCursor cursor position _ = Unit {0}

pub record IsFollowing (setup : Setup) (fs : List Function) (store : Store) (fences : List KeyFence) (n : ℕ) (now : List (Live Body)) (positions : List ℕ) (a : Attempt) : Type 0 where
  pub within : a.cursor ≤ n
  pub seen : SeesCursor a.cursor (position_of positions a.engine) a.life
  pub follows : IsFresh a ⊎ Follows setup fs store fences (upto a.cursor now) a

-- The invariant.

pub record InvariantHolds (setup : Setup) (fs : List Function) (w : World) : Type 0 where
  -- the log and the store's values are sound, so that the failure-free execution of the turns is defined
  pub sound : IsSound setup fs (values_only w.store) (records w)
  pub fenced : AllFenced (values_only w.store) w.store.fences (records w)
  -- what was sent, was asked; and what is ordered, was sent
  pub sent : AllByRecursion (IsSentRecord setup fs (values_only w.store) w.store.fences (length w.log) (records w)) w.sent
  pub ordered : AllByRecursion (λ r. IsAmong r w.sent) w.log
  pub owed : AllByRecursion (IsAskedWrite setup fs (values_only w.store) w.store.fences (length w.log) (records w)) w.store.named
  pub attempts : AllByRecursion (IsFollowing setup fs (values_only w.store) w.store.fences (length w.log) (records w) w.positions) w.attempts
  -- each invocation that began below the store's floor has ended
  pub floor_is : w.store.floor ≤ floor (records w)
  pub positions : AllByRecursion (λ p. p ≤ length w.log) w.positions
