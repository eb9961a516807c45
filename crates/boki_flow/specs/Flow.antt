-- Attempts that run on the parts of a cluster: what a step and a lost store call need, and what they do. Both are those of the step
-- table, for every machine's store and attempt that the parts and the attempt stand for.
use Rattle.std.specs.Prelude.{◌≡◌, ℕ, List}
use Rattle.boki_types.specs.declared.line.StepLine.{StepLine}
use Rattle.boki_types.specs.declared.line.Miss.{Miss}
use Rattle.boki_types.specs.declared.plan.Setup.{Setup}
use Rattle.boki_types.specs.declared.program.Function.{Function}
use Rattle.boki_model.specs.Writes.{Store}
use Rattle.boki_machine.specs.Attempt.{Attempt, Move}
use Rattle.boki_machine.specs.Step as s
use Rattle.boki_machine.specs.Step.{Missed}
use Rattle.book_api.specs.Books.{position, next_sent}
use Rattle.step_log.specs.Sound.{live_bodies, view}
use Rattle.step_laws.specs.CanStep.{CanStep}
use Rattle.attempt_state.specs.declared.state.AttemptState.{AttemptState}
use Rattle.attempt_state.specs.Attempts.{AttemptStandsFor}
use Rattle.flow_parts.specs.declared.parts.Parts.{Parts}
use Rattle.attempt_log.specs.Moves.{IsAppendedIfAny}
use Rattle.flow_parts.specs.Parts.{PartsStandFor}

-- The parts and what is kept of an attempt stand for this store and this attempt, and the attempt can be stepped.
pub record FlowStandsFor
    (setup : Setup) (fs : List Function) (store : Store) (a : Attempt) (all : Parts) (kept : AttemptState) : Type 0 where
  pub parts : PartsStandFor setup store all
  pub attempt : AttemptStandsFor fs a kept
  pub can : CanStep setup fs store (live_bodies all.book) (position all.book a.engine) a

-- They stand for some: what each call on an attempt that runs on parts needs.
pub record CanFlow (fs : List Function) (parts : Parts) (kept : AttemptState) : Type 0 where
  pub setup : Setup
  pub store : Store
  pub attempt : Attempt
  pub stands : FlowStandsFor setup fs store attempt parts kept

-- the move of the step table, by what the attempt's engine sees
abbrev pub move_of : Setup → List Function → Store → Attempt → Parts → Move
move_of setup fs store a parts = s.step setup fs store (view parts.book a.engine) (next_sent parts.book a.engine) a

-- and what a lost store call does
abbrev pub missed_of : Setup → List Function → Store → Attempt → Parts → Missed
missed_of setup fs store a parts = s.miss setup fs store (view parts.book a.engine) a

-- An attempt made a move: its line was answered, what it sends was appended, and attempt and parts stand for what is behind it.
pub record IsMoved
    (setup : Setup) (fs : List Function) (engine : ℕ) (move : Move) (old new : Parts) (kept : AttemptState) (line : StepLine)
    : Type 0 where
  pub line_is : line ≡ move.line
  pub attempt : AttemptStandsFor fs move.attempt kept
  pub parts : PartsStandFor setup move.store new
  pub sent : IsAppendedIfAny engine move.sends old.book new.book

-- The store call of an attempt's next step was made, and its answer was lost.
pub record IsMissed (setup : Setup) (missed : Missed) (old new : Parts) (what : Miss) : Type 0 where
  pub what_is : what ≡ missed.what
  pub parts : PartsStandFor setup missed.store new
  pub book : new.book ≡ old.book
