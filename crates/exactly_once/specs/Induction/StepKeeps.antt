-- A step of an attempt keeps the invariant, whatever it does; and so does the store call of a step whose answer is lost.
use Rattle.std.specs.Prelude.{List, ◌∷◌, length, Option, Some, None}
use Rattle.boki_types.specs.declared.body.Body.{Body}
use Rattle.boki_types.specs.declared.log.Sent.{Sent}
use Rattle.boki_types.specs.declared.plan.Setup.{Setup}
use Rattle.boki_types.specs.declared.program.Function.{Function}
use Rattle.boki_model.specs.Live.{LogRecord, Live, upto}
use Rattle.boki_model.specs.Writes.{Store}
use Rattle.boki_machine.specs.Attempt.{Attempt, Move}
use Rattle.boki_machine.specs.Step.{step, miss}
use Rattle.exactly_once.specs.Induction.Invariant.{World, records, position_of, IsFollowing, InvariantHolds}
use Rattle.exactly_once.specs.FurtherLaws.Words.{values_only, IsAmong}

-- what the attempt's engine sees
abbrev pub view_of : Attempt → World → List (Live Body)
view_of a w = upto (position_of w.positions a.engine) (records w)

abbrev pub with_sent : Option (LogRecord Body) → List (LogRecord Body) → List (LogRecord Body)
with_sent None sent = sent
with_sent (Some r) sent = r ∷ sent

abbrev pub with_store : Store → World → World
with_store store w = record w { store = store }

-- the state behind a step, but for the attempt itself
abbrev pub after_move : Move → World → World
after_move move w = record w { store = move.store; sent = with_sent move.sends w.sent }

-- the invariant holds behind it, and the attempt that it made follows the records there
pub record MoveKeeps (setup : Setup) (fs : List Function) (w : World) (move : Move) : Type 0 where
  pub holds : InvariantHolds setup fs (after_move move w)
  pub follows : IsFollowing setup fs (values_only move.store) move.store.fences (length w.log) (records w) w.positions move.attempt

abbrev pub MovesKeepInvariant : Type 0
MovesKeepInvariant =
    (setup : Setup) (fs : List Function) (w : World) (a : Attempt) (at : Sent) → InvariantHolds setup fs w → IsAmong a w.attempts
    → MoveKeeps setup fs w (step setup fs w.store (view_of a w) at a)

abbrev pub MissesKeepInvariant : Type 0
MissesKeepInvariant =
    (setup : Setup) (fs : List Function) (w : World) (a : Attempt) → InvariantHolds setup fs w → IsAmong a w.attempts
    → InvariantHolds setup fs (with_store (miss setup fs w.store (view_of a w) a).store w)
