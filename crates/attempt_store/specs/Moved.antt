-- Moves that leave the book as it is: what is said of the attempt, and of the store.
use Rattle.std.specs.Prelude.{◌≡◌, ◌⊎◌, ℕ, ◌≤◌, nat_lt, if◌then◌else◌, List, Option, Some, None}
use Rattle.boki_types.specs.declared.body.Body.{Body}
use Rattle.boki_types.specs.declared.line.StepLine.{StepLine}
use Rattle.boki_types.specs.declared.operation.Ask.{Ask}
use Rattle.boki_types.specs.declared.program.Function.{Function}
use Rattle.boki_model.specs.Live.{Live}
use Rattle.boki_model.specs.Writes.{Store, after_read_fenced}
use Rattle.boki_machine.specs.Attempt.{Move}
use Rattle.script_run.specs.Frames.{FrameState}
use Rattle.obj_store.specs.Kept.{StoreState}
use Rattle.book_api.specs.Books.{BookState, position}
use Rattle.hm_read.specs.Kept.{IsKept, AreKept}
use Rattle.attempt_state.specs.declared.state.AttemptState.{AttemptState}
use Rattle.attempt_state.specs.Attempts.{AttemptStandsFor}

-- there is a frame, and it asks this
abbrev pub FrameAsks : Option FrameState → Ask → Type 0
FrameAsks None ask = ⊥
FrameAsks (Some frame) ask = frame.ask ≡ ask

-- The object store is kept with the book for some store, and the engine's position covers the seqnum at which it reads.
pub record CanReadAt (book : BookState) (kept : StoreState) (engine at : ℕ) : Type 0 where
  pub store : Store
  pub are : AreKept book kept store
  pub covered : at ≤ position book engine

-- A move was made: its line, and the attempt behind it.
pub record IsMovedAlone (fs : List Function) (move : Move) (kept : AttemptState) (line : StepLine) : Type 0 where
  pub line_is : line ≡ move.line
  pub attempt : AttemptStandsFor fs move.attempt kept

-- the object store stands for one of two stores, with these live records
abbrev pub EitherKept : StoreState → Store → Store → List (Live Body) → Type 0
EitherKept kept m n records = IsKept kept m records ⊎ IsKept kept n records

-- the store behind a marker's read: below the floor it stays
abbrev pub after_marker : ℕ → List (List ℕ) → Store → Store
after_marker seq keys m = if nat_lt seq m.floor then m else after_read_fenced keys seq m

-- A move was made, and the object store stands for the one behind it.
pub record MovesStore
    (fs : List Function) (records : List (Live Body)) (kept : StoreState) (move : Move) (state : AttemptState) (line : StepLine)
    : Type 0 where
  pub moved : IsMovedAlone fs move state line
  pub store : IsKept kept move.store records
