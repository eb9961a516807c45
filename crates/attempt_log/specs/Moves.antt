-- What is sent is what the step table sends.
use Rattle.std.specs.Prelude.{◌≡◌, ℕ, ◌-◌, List, Option, Some, None, unwrap_or}
use Rattle.lb_base.specs.declared.value.Value.{Value}
use Rattle.boki_types.specs.declared.body.Body.{Body}
use Rattle.boki_types.specs.declared.body.Body.TheVariants as b
use Rattle.boki_types.specs.declared.line.StepLine.{StepLine}
use Rattle.boki_types.specs.declared.line.StepLine.TheVariants as line
use Rattle.boki_types.specs.declared.log.Sent.{Sent}
use Rattle.boki_types.specs.declared.operation.Ask.{Ask}
use Rattle.boki_types.specs.declared.program.Function.{Function}
use Rattle.boki_model.specs.Live.{LogRecord}
use Rattle.boki_model.specs.OrderLaws.{add_to}
use Rattle.boki_model.specs.Writes.{Store}
use Rattle.boki_machine.specs.Attempt.{Attempt, Move, next_index, sends_record}
use Rattle.script_ranges.specs.Sends.{body_of_ask}
use Rattle.script_run.specs.Frames.{FrameState}
use Rattle.book_api.specs.Books.{BookState, home_shard, next_sent, appended}
use Rattle.step_log.specs.Sound.{bodies, record_of}
use Rattle.attempt_state.specs.declared.progress.Progress.{Progress}
use Rattle.attempt_state.specs.declared.state.AttemptState.{AttemptState}
use Rattle.attempt_state.specs.Attempts.{AttemptStandsFor}
use Rattle.attempt_state.specs.Sending.{line_of_ask}
use Rattle.attempt_log.specs.Sent.{IsAskSent, IsInitSent}

-- a record was appended by an engine
pub record IsAppended (engine : ℕ) (r : LogRecord Body) (old new : BookState) : Type 0 where
  pub after : new ≡ appended engine (record_of r.condition r.holds) old
  pub says : bodies new ≡ add_to (home_shard old engine - 1) r (bodies old)

-- what a step sends was appended, and nothing where it sends nothing
abbrev pub IsAppendedIfAny : ℕ → Option (LogRecord Body) → BookState → BookState → Type 0
IsAppendedIfAny engine None old new = new ≡ old
IsAppendedIfAny engine (Some r) old new = IsAppended engine r old new

-- the moves that send the record of what is asked, and the Init
abbrev pub asked_move : List Function → Attempt → Store → Sent → Option Value → Ask → Move
asked_move fs t store at here ask =
    sends_record t store (body_of_ask fs t.path (next_index t.answers) t.place here (unwrap_or t.transaction 0) ask)
    (line_of_ask t.path here at ask)

abbrev pub init_move : Attempt → Store → Sent → Move
init_move t store at = sends_record t store (b.Init t.path) (line.SendInit at)

-- what is kept of an attempt
abbrev pub attempt_state : Progress → Option FrameState → AttemptState
attempt_state progress frame = record { progress = progress; frame = frame }

-- A move was made that leaves the store as it is: its line, the attempt behind it, and what it sends.
pub record IsMovedSent
    (fs : List Function) (engine : ℕ) (move : Move) (before after : BookState) (kept : AttemptState) (told : StepLine)
    : Type 0 where
  pub line_is : told ≡ move.line
  pub attempt : AttemptStandsFor fs move.attempt kept
  pub sent : IsAppendedIfAny engine move.sends before after

-- what `send_asked` does is the move that sends what is asked, for each attempt that stands there
abbrev pub AskedAreMoves : Type 0
AskedAreMoves =
    (fs : List Function) (here : Option Value) (ask : Ask) (t : Attempt) (store : Store) (frame : Option FrameState)
    (old new : Progress) (before after : BookState) (told : StepLine)
    → AttemptStandsFor fs t (attempt_state old frame) → IsAskSent fs here ask old new before after told
    → IsMovedSent fs t.engine (asked_move fs t store (next_sent before t.engine) here ask) before after (attempt_state new frame) told

-- and what `send_init` does is the move that sends the Init
abbrev pub InitsAreMoves : Type 0
InitsAreMoves =
    (fs : List Function) (t : Attempt) (store : Store) (frame : Option FrameState)
    (old new : Progress) (before after : BookState) (told : StepLine)
    → AttemptStandsFor fs t (attempt_state old frame) → IsInitSent old new before after told
    → IsMovedSent fs t.engine (init_move t store (next_sent before t.engine)) before after (attempt_state new frame) told
