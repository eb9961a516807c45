-- How the arms of a step are said: each makes the move of its own definition, for every store and attempt that the parts and what is
-- kept stand for, and of which a premise of its own holds.
use Rattle.std.specs.Prelude.{◌≡◌, ℕ, zero, ◌≤◌, Bool, true, List, Option, Some, None, is_some, unwrap_or, zip}
use Rattle.boki_types.specs.declared.line.StepLine.{StepLine}
use Rattle.boki_types.specs.declared.line.StepLine.TheVariants as line
use Rattle.boki_types.specs.declared.operation.Answer.TheVariants as ans
use Rattle.boki_types.specs.declared.line.Miss.{Miss}
use Rattle.boki_types.specs.declared.line.Life.TheVariants.{Running}
use Rattle.boki_types.specs.declared.log.Call.{Call}
use Rattle.boki_types.specs.declared.operation.Op.{Op}
use Rattle.boki_model.specs.Reads.{nth}
use Rattle.boki_model.specs.Bodies.{step_tag, child}
use Rattle.boki_model.specs.Folds.{queues, front, commits, store_values, values_of_names}
use Rattle.boki_model.specs.Modes.{result_of, mode_after}
use Rattle.boki_queue.specs.QueueStates.{popped_at}
use Rattle.boki_txn.specs.TxnStates.{commits_at}
use Rattle.book_api.specs.Books.{position, next_sent}
use Rattle.step_log.specs.Sound.{view}
use Rattle.machine_laws.specs.Adopts.{AdoptsAsked}
use Rattle.boki_types.specs.declared.operation.Ask.{Ask}
use Rattle.boki_types.specs.declared.operation.Ask.TheVariants as ask
use Rattle.boki_types.specs.declared.operation.Op.TheVariants as op
use Rattle.boki_types.specs.Finding.{find}
use Rattle.lb_base.specs.declared.value.Mode.{Mode}
use Rattle.lb_base.specs.declared.value.Outcome.TheVariants.{Good}
use Rattle.lb_base.specs.declared.value.Value.{Value}
use Rattle.lb_base.specs.declared.value.Value.TheVariants.{Nothing}
use Rattle.script_run.specs.Frames.{FrameState}
use Rattle.attempt_state.specs.declared.progress.Progress.{Progress}
use Rattle.attempt_state.specs.Progresses.{progress_of}
use Rattle.boki_types.specs.declared.plan.Setup.{Setup}
use Rattle.boki_types.specs.declared.program.Function.{Function}
use Rattle.boki_model.specs.Writes.{Store}
use Rattle.boki_machine.specs.Attempt.{Attempt, Move, moves, adopts, call_of}
use Rattle.boki_machine.specs.Step.{Missed, seqnum, attempt_ask, answers_to, adopts_answer, adopts_join, adopts_operation, records_below, is_committed, step_if_running, step_when_called, continue_step, misses_at, misses_asked, init_step, script_step, reads, reads_group, writes, logged_write_step, is_inline, join_step, misses_if, misses_with}
use Rattle.boki_model.specs.Live.{Live}
use Rattle.boki_types.specs.declared.body.Body.{Body}
use Rattle.attempt_state.specs.declared.state.AttemptState.{AttemptState}
use Rattle.attempt_state.specs.Attempts.{HasScript}
use Rattle.attempt_log.specs.Moves.{asked_move}
use Rattle.flow_parts.specs.declared.parts.Parts.{Parts}
use Rattle.flow_parts.specs.Parts.{IsCutShort}
use Rattle.boki_flow.specs.Flow.{FlowStandsFor, IsMoved, IsMissed, move_of, missed_of}
use Rattle.std.specs.Prelude.{[], ◌∷◌}
use Rattle.boki_types.specs.declared.operation.Answer.{Answer}
use Rattle.boki_model.specs.Writes.{read_fenced}
use Rattle.boki_machine.specs.Attempt.{answered_with}
use Rattle.boki_machine.specs.Step.{adopts_marker, fenced_value, read_all}
use Rattle.attempt_state.specs.Attempts.{AttemptStandsFor, SameScript}

-- there is a store and an attempt for which they stand and of which this holds
pub record CanFlowIf (P : Setup → Store → Attempt → Type 0) (fs : List Function) (parts : Parts) (kept : AttemptState) : Type 0 where
  pub setup : Setup
  pub store : Store
  pub attempt : Attempt
  pub stands : FlowStandsFor setup fs store attempt parts kept
  pub holds : P setup store attempt

-- the move of this definition was made
abbrev pub MovesBy :
    (P : Setup → Store → Attempt → Type 0) (move : Setup → Store → Attempt → Move) (fs : List Function)
    (old new : Parts) (before after : AttemptState) (line : StepLine) → Type 0
MovesBy P move fs old new before after line =
    (setup : Setup) (store : Store) (a : Attempt) → FlowStandsFor setup fs store a old before → P setup store a
    → IsMoved setup fs a.engine (move setup store a) old new after line

-- it was cut short by want of memory
abbrev pub CutShortBy :
    (P : Setup → Store → Attempt → Type 0) (move : Setup → Store → Attempt → Move) (fs : List Function)
    (old new : Parts) (before : AttemptState) → Type 0
CutShortBy P move fs old new before =
    (setup : Setup) (store : Store) (a : Attempt) → FlowStandsFor setup fs store a old before → P setup store a
    → IsCutShort setup store (move setup store a).store old new

-- no premise
abbrev pub Always : Setup → Store → Attempt → Type 0
Always setup store a = Unit {0}

-- Of lost store calls, for any functions: there are some; the call did what this definition says; or it was cut short.
abbrev pub CanMissIf : (P : List Function → Setup → Store → Attempt → Type 0) (parts : Parts) (kept : AttemptState) → Type 0
CanMissIf P parts kept = (fs : List Function) × CanFlowIf (P fs) fs parts kept

abbrev pub MissesBy :
    (P : List Function → Setup → Store → Attempt → Type 0) (missed : List Function → Setup → Store → Attempt → Missed)
    (old new : Parts) (kept : AttemptState) (what : Miss) → Type 0
MissesBy P missed old new kept what =
    (fs : List Function) (setup : Setup) (store : Store) (a : Attempt) → FlowStandsFor setup fs store a old kept
    → P fs setup store a → IsMissed setup (missed fs setup store a) old new what

abbrev pub MissCutShortBy :
    (P : List Function → Setup → Store → Attempt → Type 0) (missed : List Function → Setup → Store → Attempt → Missed)
    (old new : Parts) (kept : AttemptState) → Type 0
MissCutShortBy P missed old new kept =
    (fs : List Function) (setup : Setup) (store : Store) (a : Attempt) → FlowStandsFor setup fs store a old kept
    → P fs setup store a → IsCutShort setup store (missed fs setup store a).store old new

-- It runs, has adopted nothing yet, and its engine sees its call.
pub record IsCalled (parts : Parts) (call : Call) (a : Attempt) : Type 0 where
  pub runs : a.life ≡ Running
  pub place : a.place ≡ zero
  pub called : call_of a.path (view parts.book a.engine) ≡ Some call

-- The record at its place, which says this at a seqnum, is of the operation that its script asks.
pub record IsAdopting (fs : List Function) (store : Store) (parts : Parts) (seq : ℕ) (body : Body) (a : Attempt) : Type 0 where
  pub script : HasScript a
  pub x : Live Body
  pub found : nth (step_tag a.path) a.place (view parts.book a.engine) ≡ Some x
  pub seq_is : x.seq ≡ seq
  pub says : x.holds ≡ body
  pub op : Op
  pub asks : attempt_ask fs a ≡ Some (ask.Op op)
  pub adopts : AdoptsAsked fs store (view parts.book a.engine) a x op

-- it runs, has adopted its Init, and its script asks this
pub record IsAsking (fs : List Function) (ask : Ask) (a : Attempt) : Type 0 where
  pub script : HasScript a
  pub asks : attempt_ask fs a ≡ Some ask

-- what the frame asks; where there is none nobody looks at it
abbrev pub asked_in : Option FrameState → Ask
asked_in None = ask.Done (Good Nothing)
asked_in (Some frame) = frame.ask

-- the value that stands in the record of a write which is inline
abbrev pub here_in : Bool → Ask → Option Value
here_in true (ask.Op (op.Write key v)) = Some v
here_in _ _ = None

-- its script has an operation, and the record at its place has that one's index
abbrev pub IsAnswered : List Function → Parts → Attempt → Type 0
IsAnswered fs parts a =
    is_some (answers_to a (attempt_ask fs a) (nth (step_tag a.path) a.place (view parts.book a.engine))) ≡ true

-- Premises of arms: it runs; it has adopted its Init besides; and the record at its place is of its next operation.
abbrev pub Runs : Setup → Store → Attempt → Type 0
Runs setup store a = a.life ≡ Running

abbrev pub HasBegun : Setup → Store → Attempt → Type 0
HasBegun setup store a = HasScript a

abbrev pub FindsAnswer : List Function → Parts → Setup → Store → Attempt → Type 0
FindsAnswer fs parts setup store a = HasScript a × IsAnswered fs parts a

-- its script asks this; and its engine sees a seqnum
abbrev pub ScriptAsks : List Function → Ask → Setup → Store → Attempt → Type 0
ScriptAsks fs ask setup store a = IsAsking fs ask a

abbrev pub SeesSeqnum : Parts → ℕ → Setup → Store → Attempt → Type 0
SeesSeqnum parts seq setup store a = seq ≤ position parts.book a.engine

-- The moves of a step in the order of its cases, by what the attempt's engine sees: of any step; where the attempt runs; where its
-- engine sees no end of its invocation; and where it has adopted its Init.
abbrev pub step_move : List Function → Parts → Setup → Store → Attempt → Move
step_move fs parts setup store a = move_of setup fs store a parts

abbrev pub running_move : List Function → Parts → Setup → Store → Attempt → Move
running_move fs parts setup store a =
    step_if_running setup fs a store (view parts.book a.engine) (next_sent parts.book a.engine) Running

abbrev pub unended_move : List Function → Parts → Setup → Store → Attempt → Move
unended_move fs parts setup store a =
    step_when_called setup fs a store (view parts.book a.engine) (next_sent parts.book a.engine) None
    (call_of a.path (view parts.book a.engine))

abbrev pub next_move : List Function → Parts → Setup → Store → Attempt → Move
next_move fs parts setup store a =
    continue_step setup fs a store (view parts.book a.engine) (next_sent parts.book a.engine) (attempt_ask fs a)

-- the record at its place, which says this at a seqnum, is of the operation that its script asks
abbrev pub AdoptsBody : List Function → Parts → ℕ → Body → Setup → Store → Attempt → Type 0
AdoptsBody fs parts seq body setup store a = IsAdopting fs store parts seq body a

abbrev pub adopting_move : Parts → ℕ → Body → Setup → Store → Attempt → Move
adopting_move parts seq body setup store a =
    adopts_operation a store (view parts.book a.engine) seq body (moves a store line.WaitsRecord)

-- What a lost store call does in the order of the cases, by what the attempt's engine sees: of any step; where the attempt runs; where
-- its engine sees no end of its invocation; where it has adopted its Init; and where besides it neither adopts nor waits.
abbrev pub step_missed : List Function → Parts → Setup → Store → Attempt → Missed
step_missed fs parts setup store a = missed_of setup fs store a parts

abbrev pub running_missed : List Function → Parts → Setup → Store → Attempt → Missed
running_missed fs parts setup store a = misses_if setup fs a store (view parts.book a.engine) Running

abbrev pub unended_missed : List Function → Parts → Setup → Store → Attempt → Missed
unended_missed fs parts setup store a =
    misses_with setup fs a store (view parts.book a.engine) None (call_of a.path (view parts.book a.engine))

abbrev pub next_missed : List Function → Parts → Setup → Store → Attempt → Missed
next_missed fs parts setup store a =
    misses_at setup a store (attempt_ask fs a)
    (answers_to a (attempt_ask fs a) (nth (step_tag a.path) a.place (view parts.book a.engine)))

abbrev pub asked_missed : List Function → Setup → Store → Attempt → Missed
asked_missed fs setup store a = misses_asked setup a store (attempt_ask fs a)

-- It runs, and its script asks what is adopted at this seqnum.
pub record IsTaking (fs : List Function) (asks : Ask) (seq : ℕ) (changed : Progress) (a : Attempt) : Type 0 where
  pub script : HasScript a
  pub asked : attempt_ask fs a ≡ Some asks
  pub changed_is : changed ≡ progress_of (adopts a seq)

-- what it asks is adopted at the cursor of its changed state; so is a pop of this queue, and a commit, whatever it writes
abbrev pub TakesAnswer : List Function → Ask → Progress → Setup → Store → Attempt → Type 0
TakesAnswer fs asks changed setup store a = IsTaking fs asks changed.cursor.0 changed a

abbrev pub TakesPop : List Function → Parts → List ℕ → Progress → Setup → Store → Attempt → Type 0
TakesPop fs parts queue changed setup store a =
    (popped_at changed.cursor.0 (view parts.book a.engine) ≡ Some queue)
    × IsTaking fs (ask.Op (op.Pop queue)) changed.cursor.0 changed a

pub record IsTakingCommit (fs : List Function) (changed : Progress) (a : Attempt) : Type 0 where
  pub names : List (List ℕ)
  pub writes : List (List ℕ × Value)
  pub takes : IsTaking fs (ask.Op (op.Commit names writes)) changed.cursor.0 changed a

abbrev pub TakesCommit : List Function → Parts → Progress → Setup → Store → Attempt → Type 0
TakesCommit fs parts changed setup store a =
    (commits_at changed.cursor.0 (view parts.book a.engine) ≡ true) × IsTakingCommit fs changed a

-- the moves that adopt a join and a pop
abbrev pub joined_move : Parts → Progress → ℕ → Setup → Store → Attempt → Move
joined_move parts changed ordinal setup store a =
    adopts_join a store changed.cursor.0 (child a.path ordinal)
    (result_of (child a.path ordinal) (view parts.book a.engine))

abbrev pub popped_move : Parts → Progress → List ℕ → Setup → Store → Attempt → Move
popped_move parts changed queue setup store a =
    let v = front queue (queues (records_below changed.cursor.0 (view parts.book a.engine))) in
    adopts_answer a store changed.cursor.0 (ans.Value v) (line.AdoptPop changed.cursor queue v)

-- and those that adopt a begin and a commit
abbrev pub begun_move : Parts → Progress → List (List ℕ) → Setup → Store → Attempt → Move
begun_move parts changed names setup store a =
    let records = records_below changed.cursor.0 (view parts.book a.engine) in
    let vs = values_of_names names (store_values (commits records)) in
    adopts_answer (record a { transaction = Some changed.cursor.0 }) store changed.cursor.0 (ans.Values vs)
    (line.AdoptBegin changed.cursor (zip names vs))

abbrev pub committed_move : Parts → Progress → Setup → Store → Attempt → Move
committed_move parts changed setup store a =
    let good = is_committed changed.cursor.0 (view parts.book a.engine) in
    adopts_answer (record a { transaction = None }) store changed.cursor.0 (ans.Committed good)
    (line.AdoptCommit changed.cursor good)

-- the move that adopts an Init, with the mode that it fixes
abbrev pub adopted_init : List Function → Attempt → Store → ℕ → Call → Mode → Move
adopted_init fs a store seq call mode =
    moves (record (adopts a seq) { mode = mode; function = unwrap_or (find call.function fs) 0; args = call.args }) store
    (line.AdoptInit (seqnum seq) mode)

-- The moves of what a script asks, and of an attempt that has adopted nothing yet, by what the attempt's engine sees in a book.

abbrev pub IsCalledBy : Parts → Call → Setup → Store → Attempt → Type 0
IsCalledBy parts call setup store a = IsCalled parts call a

abbrev pub script_move : List Function → Parts → Setup → Store → Attempt → Move
script_move fs parts setup store a =
    script_step setup fs a store (view parts.book a.engine) (next_sent parts.book a.engine) (attempt_ask fs a)

-- a join of this child
abbrev pub join_move : Parts → ℕ → Setup → Store → Attempt → Move
join_move parts ordinal setup store a =
    join_step a store (next_sent parts.book a.engine) ordinal (result_of (child a.path ordinal) (view parts.book a.engine))

-- what is asked is sent, of a write that is inline with its value
abbrev pub send_move : List Function → Parts → Bool → Option FrameState → Setup → Store → Attempt → Move
send_move fs parts inline frame setup store a =
    asked_move fs a store (next_sent parts.book a.engine) (here_in inline (asked_in frame)) (asked_in frame)

-- the Init is adopted, waited for, or sent
abbrev pub init_move : List Function → Parts → Call → Setup → Store → Attempt → Move
init_move fs parts call setup store a =
    let seen = view parts.book a.engine in
    init_step setup fs a store seen (next_sent parts.book a.engine) call (nth (step_tag a.path) 0 seen)

-- the Init at a seqnum is adopted
abbrev pub adopts_init : List Function → Parts → Call → ℕ → Setup → Store → Attempt → Move
adopts_init fs parts call seq setup store a =
    adopted_init fs a store seq call (mode_after setup.mode (records_below seq (view parts.book a.engine)))

-- Of what the script asks: a read, a read of several objects, a write, and a write that isn't free.
abbrev pub read_move : Parts → List ℕ → Setup → Store → Attempt → Move
read_move parts key setup store a = reads a store (view parts.book a.engine) (next_sent parts.book a.engine) key a.mode

abbrev pub read_group_move : Parts → List (List ℕ) → Setup → Store → Attempt → Move
read_group_move parts keys setup store a =
    reads_group a store (view parts.book a.engine) (next_sent parts.book a.engine) keys a.mode

abbrev pub write_move : Parts → List ℕ → Value → Setup → Store → Attempt → Move
write_move parts key v setup store a = writes setup a store (next_sent parts.book a.engine) key v a.mode a.late

abbrev pub logged_move : Parts → List ℕ → Value → Setup → Store → Attempt → Move
logged_move parts key v setup store a =
    logged_write_step (is_inline setup a v) a.stored a store (next_sent parts.book a.engine) key v

-- A marker is adopted: the script asks its read, and the engine sees its seqnum. Its moves are of one object and of several.
abbrev pub AsksMarked : List Function → Parts → Op → ℕ → Setup → Store → Attempt → Type 0
AsksMarked fs parts op seq setup store a = IsAsking fs (ask.Op op) a × (seq ≤ position parts.book a.engine)

abbrev pub marked_move : Parts → ℕ → List ℕ → Setup → Store → Attempt → Move
marked_move parts seq key setup store a =
    let v = fenced_value (read_fenced key seq store (view parts.book a.engine)) in
    adopts_marker a store seq (key ∷ []) (ans.Value v) (line.AdoptRead (seqnum seq) key v)

abbrev pub group_move : Parts → ℕ → List (List ℕ) → Setup → Store → Attempt → Move
group_move parts seq keys setup store a =
    let vs = read_all (λ key. read_fenced key seq store (view parts.book a.engine)) keys in
    adopts_marker a store seq keys (ans.Values vs) (line.AdoptReadAll (seqnum seq) (zip keys vs))

-- The attempt that is kept has an answer more, and stands for each one that was where `changed` says.
abbrev pub IsAnswerTaken : List Function → Progress → Answer → AttemptState → AttemptState → Type 0
IsAnswerTaken fs changed answer before after =
    (a b : Attempt) → AttemptStandsFor fs a before → HasScript a → SameScript a b → HasScript b → changed ≡ progress_of b
    → AttemptStandsFor fs (answered_with b answer) after
