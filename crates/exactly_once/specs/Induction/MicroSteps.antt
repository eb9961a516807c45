-- What events are made of: small changes of a state, each of which keeps the invariant.
use Rattle.std.specs.Prelude.{◌≡◌, ℕ, ◌≤◌, false, List, ◌∷◌, length}
use Rattle.std.specs.List.{AllByRecursion}
use Rattle.boki_types.specs.declared.body.Body.{Body}
use Rattle.boki_types.specs.declared.plan.Setup.{Setup}
use Rattle.boki_types.specs.declared.program.Function.{Function}
use Rattle.boki_model.specs.Live.{LogRecord, meets_condition}
use Rattle.boki_model.specs.Floor.{floor}
use Rattle.boki_model.specs.Writes.{raise_fences, after_sweep}
use Rattle.boki_machine.specs.Attempt.{Attempt, new_attempt}
use Rattle.exactly_once.specs.Induction.SoundLogs.{IsSound}
use Rattle.exactly_once.specs.Induction.Invariant.{World, records, IsSentRecord, IsFollowing, AllFenced, InvariantHolds}
use Rattle.exactly_once.specs.FurtherLaws.Words.{values_only, IsAmong}

-- fences of some keys are raised to a seqnum
abbrev pub with_fences_raised : List (List ℕ) → ℕ → World → World
with_fences_raised keys at w = record w { store = record (w.store) { fences = raise_fences keys at w.store.fences } }

-- a sweep lifts the floor
abbrev pub with_floor_lifted : ℕ → World → World
with_floor_lifted n w = record w { store = after_sweep n w.store }

-- a record is sent
abbrev pub with_record_sent : LogRecord Body → World → World
with_record_sent r w = record w { sent = r ∷ w.sent }

-- a record is ordered
abbrev pub with_record_ordered : LogRecord Body → World → World
with_record_ordered r w = record w { log = r ∷ w.log }

abbrev pub with_attempts : List Attempt → World → World
with_attempts attempts w = record w { attempts = attempts }

abbrev pub with_positions : List ℕ → World → World
with_positions positions w = record w { positions = positions }

-- Of a state that the invariant holds of:
pub record StepsKeep (setup : Setup) (fs : List Function) (w : World) : Type 0 where
  pub raise : (keys : List (List ℕ)) (at : ℕ) → InvariantHolds setup fs (with_fences_raised keys at w)
  pub lift : (n : ℕ) → n ≤ floor (records w) → InvariantHolds setup fs (with_floor_lifted n w)
  pub send : (r : LogRecord Body) → IsSentRecord setup fs (values_only w.store) w.store.fences (length w.log) (records w) r → InvariantHolds setup fs (with_record_sent r w)
  -- attempts that follow the records
  pub move : (attempts : List Attempt) → AllByRecursion (IsFollowing setup fs (values_only w.store) w.store.fences (length w.log) (records w) w.positions) attempts → InvariantHolds setup fs (with_attempts attempts w)
  pub start : (path : List ℕ) (engine : ℕ) → InvariantHolds setup fs (with_attempts (new_attempt path engine ∷ w.attempts) w)
  -- positions under which each running attempt still sees its cursor
  pub catch : (positions : List ℕ) → AllByRecursion (λ p. p ≤ length w.log) positions → AllByRecursion (IsFollowing setup fs (values_only w.store) w.store.fences (length w.log) (records w) positions) w.attempts → InvariantHolds setup fs (with_positions positions w)
  -- a record is ordered that isn't live
  pub order_dead : (r : LogRecord Body) → IsAmong r w.sent → meets_condition r.condition (records w) ≡ false → InvariantHolds setup fs (with_record_ordered r w)
  -- any record: what it needs is that the log stays sound, with its fences
  pub order : (r : LogRecord Body) → IsAmong r w.sent → IsSound setup fs (values_only w.store) (records (with_record_ordered r w)) → AllFenced (values_only w.store) w.store.fences (records (with_record_ordered r w)) → InvariantHolds setup fs (with_record_ordered r w)

abbrev pub MicroStepsKeepInvariant : Type 0
MicroStepsKeepInvariant = (setup : Setup) (fs : List Function) (w : World) → InvariantHolds setup fs w → StepsKeep setup fs w
