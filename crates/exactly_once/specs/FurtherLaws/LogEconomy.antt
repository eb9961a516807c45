-- How many step records an invocation that has ended has in the log: its Init, its Finish, and one for each operation that
-- isn't free. Reads of objects are free in mode R, and writes in mode W, but for those that were late.
use Rattle.std.specs.Prelude.{◌≡◌, ℕ, suc, ◌+◌, ◌<◌, not, Bool, true, false, if◌then◌else◌, List, [], ◌∷◌, length, Option, Some, None, bytes_eq}
use Rattle.lb_base.specs.declared.value.Mode.TheVariants.{R, W, T}
use Rattle.boki_types.specs.declared.body.Body.{Body}
use Rattle.boki_types.specs.declared.body.Body.TheVariants as b
use Rattle.boki_types.specs.declared.operation.Op.TheVariants as o
use Rattle.boki_types.specs.declared.operation.Ask.{Ask}
use Rattle.boki_types.specs.declared.operation.Ask.TheVariants as k
use Rattle.boki_types.specs.declared.operation.Answer.{Answer}
use Rattle.boki_types.specs.declared.plan.Setup.{Setup}
use Rattle.boki_types.specs.declared.program.Function.{Function}
use Rattle.boki_model.specs.Live.{Live}
use Rattle.boki_model.specs.Bodies.{step_of}
use Rattle.boki_model.specs.Writes.{Store, Version, KeyFence, fence, version_value, versions_at}
use Rattle.boki_machine.specs.Decided.{InvocationState, invocation_state, asked_at}
use Rattle.boki_machine.specs.Machine.{Machine, live_records}
use Rattle.exactly_once.specs.FurtherLaws.ModesAndFloors.{IsEnded}
use Rattle.exactly_once.specs.FurtherLaws.Words.{AreConsecutive, versions_with_cursor, values_only}
use Rattle.exactly_once.specs.FurtherLaws.StepRecords.{is_step_of, step_seqnums}

abbrev pub is_any : Ask → Bool
is_any ask = true

-- a read of one object or of a group
abbrev pub is_read : Ask → Bool
is_read (k.Op (o.Read key)) = true
is_read (k.Op (o.ReadGroup keys)) = true
is_read _ = false

abbrev pub is_write : Ask → Bool
is_write (k.Op (o.Write key value)) = true
is_write _ = false

abbrev pub one_if : (Ask → Bool) → Option Ask → ℕ
one_if test None = 0
one_if test (Some ask) = if test ask then 1 else 0

-- How many operations that a test picks were answered. The answers have the newest first; each answers what the script asks
-- behind those before it.
abbrev pub count_answered : (Ask → Bool) → List Function → List ℕ → InvocationState → List Answer → ℕ
count_answered test fs path state [] = 0
count_answered test fs path state (x ∷ answers) = one_if test (asked_at fs path state answers) + count_answered test fs path state answers

-- the live writes of the invocation
abbrev pub is_write_by : List ℕ → Body → Bool
is_write_by path (b.Write p i place key here) = bytes_eq path p
is_write_by path _ = false

abbrev pub count_live_writes : List ℕ → List (Live Body) → ℕ
count_live_writes path [] = 0
count_live_writes path (x ∷ xs) = if is_write_by path x.holds then suc (count_live_writes path xs) else count_live_writes path xs

-- the versions that stand at its step records
abbrev pub count_versions : List ℕ → List Version → List (Live Body) → ℕ
count_versions path versions [] = 0
count_versions path versions (x ∷ xs) =
    if is_step_of path (step_of x.holds) then versions_at x.seq versions + count_versions path versions xs else count_versions path versions xs

-- the versions at each record are numbered
abbrev pub AllConsecutive : List Version → List (Live Body) → Type 0
AllConsecutive versions [] = Unit {0}
AllConsecutive versions (x ∷ xs) = AreConsecutive (versions_with_cursor x.seq versions) × AllConsecutive versions xs

-- A write of the invocation that comes behind these records was late: the version that it would have is absent, which is the
-- next one at the invocation's cursor, and the key's fence is above the cursor.
abbrev pub WasLate : Setup → List Function → Store → List KeyFence → List ℕ → List (Live Body) → Body → Type 0
WasLate setup fs store fences path past (b.Write p i place key here) =
    let cursor = (invocation_state setup fs store path past).cursor in
    bytes_eq path p ≡ true → (version_value key cursor (suc (versions_at cursor store.versions)) store.versions ≡ None) × (cursor < fence key fences)
WasLate setup fs store fences path past _ = Unit {0}

abbrev pub WereLate : Setup → List Function → Store → List KeyFence → List ℕ → List (Live Body) → Type 0
WereLate setup fs store fences path [] = Unit {0}
WereLate setup fs store fences path (x ∷ xs) = WasLate setup fs store fences path xs x.holds × WereLate setup fs store fences path xs

-- Where the invocation stands at its end:
pub record IsEconomic (setup : Setup) (fs : List Function) (store : Store) (fences : List KeyFence) (path : List ℕ) (records : List (Live Body)) (state : InvocationState) : Type 0 where
  -- each of its answers is that of an operation which its script asked
  pub answered : count_answered is_any fs path state state.answers ≡ length state.answers
  pub in_T : state.mode ≡ T → length (step_seqnums path records) ≡ 2 + length state.answers
  pub in_R : state.mode ≡ R → length (step_seqnums path records) ≡ 2 + count_answered (λ ask. not (is_read ask)) fs path state state.answers
  pub in_W : state.mode ≡ W → length (step_seqnums path records) ≡ 2 + (count_answered (λ ask. not (is_write ask)) fs path state state.answers + count_live_writes path records)
  -- in mode W each of its writes is a version or a live write, and each live write was late
  pub written : state.mode ≡ W → count_answered is_write fs path state state.answers ≡ count_live_writes path records + count_versions path store.versions records
  pub numbered : AllConsecutive store.versions records
  pub late : state.mode ≡ W → WereLate setup fs store fences path records

abbrev pub EndedAreEconomic : Setup → List Function → Machine → Type 0
EndedAreEconomic setup fs m =
    (path : List ℕ) → IsEnded path (live_records m)
    → IsEconomic setup fs (values_only m.store) m.store.fences path (live_records m) (invocation_state setup fs (values_only m.store) path (live_records m))
