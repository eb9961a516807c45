-- A free write may be put in, in any state that the invariant holds of.
use Rattle.std.specs.Prelude.{◌≡◌, ℕ, suc, ◌+◌, ◌≤◌, true, List, length, Some, None}
use Rattle.lb_base.specs.declared.value.Value.{Value}
use Rattle.lb_base.specs.declared.value.Mode.TheVariants.{W}
use Rattle.boki_types.specs.declared.operation.Op.TheVariants as o
use Rattle.boki_types.specs.declared.operation.Ask.TheVariants as k
use Rattle.boki_types.specs.declared.plan.Setup.{Setup}
use Rattle.boki_types.specs.declared.program.Function.{Function}
use Rattle.boki_model.specs.Writes.{Store, Version, version_value, fence}
use Rattle.boki_model.specs.WriteLaws.{with_version}
use Rattle.boki_machine.specs.Attempt.{Attempt}
use Rattle.boki_machine.specs.Step.{attempt_ask}
use Rattle.boki_types.specs.declared.body.Body.{Body}
use Rattle.boki_model.specs.Live.{Live, upto}
use Rattle.boki_machine.specs.Decided.{invocation_state, with_free_answers}
use Rattle.exactly_once.specs.Induction.Invariant.{World, records, marked_reads, AreFenced, InvariantHolds}
use Rattle.exactly_once.specs.FurtherLaws.Words.{values_only, IsAmong}

abbrev pub with_version_put : Version → World → World
with_version_put v w = record w { store = with_version v w.store }

-- the version of an attempt's next free write
abbrev pub next_version : Attempt → List ℕ → Value → Version
next_version a key value = record { key = key; cursor = a.cursor; number = suc a.free_writes; value = value }

-- An attempt of mode W that has adopted its Init asks this write; its version isn't there, and no read at a marker above the
-- cursor has fenced it off. Its engine need not see all records, and it may be that another attempt has gone further.
pub record MayPut (fs : List Function) (w : World) (a : Attempt) (key : List ℕ) (value : Value) : Type 0 where
  pub among : IsAmong a w.attempts
  pub place : ℕ
  pub begun : a.place ≡ suc place
  pub mode : a.mode ≡ W
  pub asked : attempt_ask fs a ≡ Some (k.Op (o.Write key value))
  pub new : version_value key a.cursor (suc a.free_writes) w.store.versions ≡ None
  pub unfenced : fence key w.store.fences ≤ a.cursor

abbrev pub PuttingKeepsInvariant : Type 0
PuttingKeepsInvariant =
    (setup : Setup) (fs : List Function) (w : World) (a : Attempt) (key : List ℕ) (value : Value) → InvariantHolds setup fs w
    → MayPut fs w a key value → InvariantHolds setup fs (with_version_put (next_version a key value) w)

-- What an invocation has decided up to a seqnum stays: where it stands, and its free answers there.
pub record IsUnmoved (setup : Setup) (fs : List Function) (old new : Store) (behind : List (Live Body)) (path : List ℕ) : Type 0 where
  pub stands : invocation_state setup fs new path behind ≡ invocation_state setup fs old path behind
  pub frees :
      (n : ℕ) → (invocation_state setup fs old path behind).begun ≡ true → length (with_free_answers fs old behind path (invocation_state setup fs old path behind) n) ≡ n + length (invocation_state setup fs old path behind).answers
      → with_free_answers fs new behind path (invocation_state setup fs old path behind) n ≡ with_free_answers fs old behind path (invocation_state setup fs old path behind) n

-- A version put in at an old position changes no decided answer but that of a marker that nobody has adopted: where the marked
-- reads of an invocation up to a seqnum have their fences, it is unmoved.
abbrev pub DecidedReadsStay : Type 0
DecidedReadsStay =
    (setup : Setup) (fs : List Function) (w : World) (a : Attempt) (key : List ℕ) (value : Value) → InvariantHolds setup fs w → MayPut fs w a key value
    → (path : List ℕ) (c : ℕ) → AreFenced w.store.fences (marked_reads path (upto c (records w)))
    → IsUnmoved setup fs (values_only w.store) (values_only (with_version_put (next_version a key value) w).store) (upto c (records w)) path
