-- The statement of the central theorem rests on this file.
-- The step table: what one step of an attempt does, by the records that its engine sees. The first case that applies is taken.
use Rattle.std.specs.Prelude.{ℕ, zero, suc, ◌-◌, ◌==◌, ◌&&◌, ◌||◌, nat_le, nat_lt, Bool, true, false, if◌then◌else◌, List, [], ◌∷◌, length, map, Option, Some, None, unwrap_or, zip}
use Rattle.std.specs.List.{list_any}
use Rattle.lb_base.specs.declared.value.Value.{Value}
use Rattle.lb_base.specs.declared.value.Value.TheVariants.{Int, Text, Nothing}
use Rattle.lb_base.specs.declared.value.Mode.{Mode}
use Rattle.lb_base.specs.declared.value.Mode.TheVariants.{R, W}
use Rattle.lb_base.specs.declared.value.Outcome.{Outcome}
use Rattle.lb_base.specs.declared.value.Seqnum.{Seqnum}
use Rattle.boki_types.specs.declared.body.Body.{Body}
use Rattle.boki_types.specs.declared.body.Body.TheVariants as body
use Rattle.boki_types.specs.declared.line.Life.{Life}
use Rattle.boki_types.specs.declared.line.Life.TheVariants.{Running, Over, Stopped, Killed}
use Rattle.boki_types.specs.declared.line.StepLine.{StepLine}
use Rattle.boki_types.specs.declared.line.StepLine.TheVariants as line
use Rattle.boki_types.specs.declared.line.Miss.{Miss}
use Rattle.boki_types.specs.declared.line.Miss.TheVariants as missed_call
use Rattle.boki_types.specs.declared.log.Call.{Call}
use Rattle.boki_types.specs.declared.log.Sent.{Sent}
use Rattle.boki_types.specs.declared.operation.Op.{Op}
use Rattle.boki_types.specs.declared.operation.Op.TheVariants as op
use Rattle.boki_types.specs.declared.operation.Ask.{Ask}
use Rattle.boki_types.specs.declared.operation.Ask.TheVariants as ask
use Rattle.boki_types.specs.declared.operation.Answer.{Answer}
use Rattle.boki_types.specs.declared.operation.Answer.TheVariants as answer
use Rattle.boki_types.specs.declared.plan.Setup.{Setup}
use Rattle.boki_types.specs.declared.program.Function.{Function}
use Rattle.boki_types.specs.declared.store.Name.{Name}
use Rattle.boki_types.specs.declared.store.Put.{Put}
use Rattle.boki_types.specs.declared.store.Put.TheVariants as put_result
use Rattle.boki_types.specs.declared.store.Fenced.{Fenced}
use Rattle.boki_types.specs.declared.store.Fenced.TheVariants as read_result
use Rattle.boki_types.specs.Finding.{find, function_at}
use Rattle.boki_model.specs.Live.{Live, upto}
use Rattle.boki_model.specs.Reads.{nth}
use Rattle.boki_model.specs.Bodies.{step_tag, step_of, child}
use Rattle.boki_model.specs.Modes.{result_of, mode_after}
use Rattle.boki_model.specs.Writes.{Store, read_free, read_fenced, after_read_fenced, put_at, after_put, after_put_named}
use Rattle.boki_model.specs.Script.{next_ask}
use Rattle.boki_model.specs.Folds.{queues, front, commits, store_values, values_of_names}
use Rattle.boki_machine.specs.Attempt.{Attempt, Move, moves, sends_record, adopts, answered_with, next_index, call_of}
use Rattle.boki_model.specs.declared.limits.TheConstants.{MAX_INLINE_BYTES}

abbrev pub seqnum : ℕ → Seqnum
seqnum n = record { 0 = n }

-- the records below a seqnum
abbrev pub records_below : ℕ → List (Live Body) → List (Live Body)
records_below seq view = upto (seq - 1) view

-- the attempt stops where the store no longer has what it needs
abbrev pub stop_gone : Attempt → Store → Move
stop_gone attempt store = moves (record attempt { life = Stopped }) store line.StoppedGone

-- what is found, with none where nothing is
abbrev pub fenced_value : Fenced → Value
fenced_value (read_result.Found v) = v
fenced_value _ = Nothing

abbrev pub read_all : (List ℕ → Fenced) → List (List ℕ) → List Value
read_all f keys = map (λ key. fenced_value (f key)) keys

-- Adopting the record at seq.

abbrev pub adopts_answer : Attempt → Store → ℕ → Answer → StepLine → Move
adopts_answer attempt store seq answer line = moves (answered_with (adopts attempt seq) answer) store line

-- a marker makes the fenced read of each of its keys; where the store no longer has it, the attempt stops
abbrev pub adopts_marker : Attempt → Store → ℕ → List (List ℕ) → Answer → StepLine → Move
adopts_marker attempt store seq keys answer line =
    if nat_lt seq store.floor then stop_gone attempt store else adopts_answer attempt (after_read_fenced keys seq store) seq answer line

abbrev pub adopts_join : Attempt → Store → ℕ → List ℕ → Option Outcome → Move
adopts_join attempt store seq p None = moves attempt store (line.WaitsJoin p)
adopts_join attempt store seq p (Some outcome) =
    adopts_answer attempt store seq (answer.Joined outcome) (line.AdoptJoin (seqnum seq) p outcome)

-- whether the commit at the seqnum succeeded
abbrev pub is_committed : ℕ → List (Live Body) → Bool
is_committed seq view = list_any (λ c. seq == c.seq) (commits view)

-- what the record of an operation answers; a record that is none leaves it to the cases that follow
abbrev pub adopts_operation : Attempt → Store → List (Live Body) → ℕ → Body → Move → Move
adopts_operation attempt store view seq (body.Read p i key) other = let v = fenced_value (read_fenced key seq store view) in
    adopts_marker attempt store seq (key ∷ []) (answer.Value v) (line.AdoptRead (seqnum seq) key v)
adopts_operation attempt store view seq (body.ReadGroup p i keys) other =
    let vs = read_all (λ key. read_fenced key seq store view) keys in
    adopts_marker attempt store seq keys (answer.Values vs) (line.AdoptReadAll (seqnum seq) (zip keys vs))
adopts_operation attempt store view seq (body.Write p i place key value) other =
    adopts_answer attempt store seq answer.Done (line.AdoptWrite (seqnum seq) key)
adopts_operation attempt store view seq (body.Spawn p i ordinal f args) other =
    adopts_answer attempt store seq (answer.Spawned ordinal) (line.AdoptSpawn (seqnum seq) (child p ordinal))
adopts_operation attempt store view seq (body.Join p i ordinal) other =
    adopts_join attempt store seq (child p ordinal) (result_of (child p ordinal) view)
adopts_operation attempt store view seq (body.Push p i queue value) other =
    adopts_answer attempt store seq answer.Done (line.AdoptPush (seqnum seq) queue)
adopts_operation attempt store view seq (body.Pop p i queue) other =
    let v = front queue (queues (records_below seq view)) in adopts_answer attempt store seq (answer.Value v) (line.AdoptPop (seqnum seq) queue v)
adopts_operation attempt store view seq (body.TxnBegin p i names) other =
    let vs = values_of_names names (store_values (commits (records_below seq view))) in
    adopts_answer (record attempt { transaction = Some seq }) store seq (answer.Values vs) (line.AdoptBegin (seqnum seq) (zip names vs))
adopts_operation attempt store view seq (body.TxnCommit p i begin names writes) other =
    let good = is_committed seq view in
    adopts_answer (record attempt { transaction = None }) store seq (answer.Committed good) (line.AdoptCommit (seqnum seq) good)
adopts_operation attempt store view seq _ other = other

-- What an asked operation does where no record answers it.

-- a write is inline, and its record holds its value, where its engine is new and the value is short
abbrev pub is_short_value : Value → Bool
is_short_value (Int n) = true
is_short_value (Text t) = nat_le (length t) MAX_INLINE_BYTES
is_short_value Nothing = true

abbrev pub is_new_engine : Option ℕ → ℕ → Bool
is_new_engine None engine = false
is_new_engine (Some n) engine = nat_le n engine

abbrev pub is_inline : Setup → Attempt → Value → Bool
is_inline setup attempt v = is_new_engine setup.newer attempt.engine && is_short_value v

abbrev pub next_write_name : Attempt → Name
next_write_name attempt = record { path = attempt.path; place = attempt.place }

abbrev pub reads : Attempt → Store → List (Live Body) → Sent → List ℕ → Mode → Move
reads attempt store view at key R = let v = fenced_value (read_free key attempt.cursor store view) in
    if nat_lt attempt.cursor store.floor then stop_gone attempt store
    else moves (answered_with attempt (answer.Value v)) store (line.Read key v)
reads attempt store view at key _ =
    sends_record attempt store (body.Read attempt.path (next_index attempt.answers) key) (line.SendRead at key)

abbrev pub reads_group : Attempt → Store → List (Live Body) → Sent → List (List ℕ) → Mode → Move
reads_group attempt store view at keys R = let vs = read_all (λ key. read_free key attempt.cursor store view) keys in
    if nat_lt attempt.cursor store.floor then stop_gone attempt store
    else moves (answered_with attempt (answer.Values vs)) store (line.ReadAll (zip keys vs))
reads_group attempt store view at keys _ =
    sends_record attempt store (body.ReadGroup attempt.path (next_index attempt.answers) keys) (line.SendReadAll at keys)

-- a logged write, whose value is stored first, or stands in the record
abbrev pub send_write : Attempt → Store → Sent → List ℕ → Value → Option Value → Move
send_write attempt store at key v here =
    sends_record attempt store (body.Write attempt.path (next_index attempt.answers) attempt.place key here) (line.SendWrite at key here)

abbrev pub logged_write_step : Bool → Bool → Attempt → Store → Sent → List ℕ → Value → Move
logged_write_step true in_store attempt store at key v = send_write attempt store at key v (Some v)
logged_write_step false true attempt store at key v = send_write attempt store at key v None
logged_write_step false false attempt store at key v =
    if nat_lt attempt.cursor store.floor then stop_gone attempt store
    else moves (record attempt { stored = true }) (after_put_named (next_write_name attempt) attempt.cursor v store) (line.Store key v)

abbrev pub free_write_step : Put → Attempt → Store → List ℕ → Value → Move
free_write_step put_result.Gone attempt store key v = stop_gone attempt store
free_write_step put_result.Late attempt store key v = moves (record attempt { late = true }) store (line.Late key)
free_write_step put_result.Done attempt store key v =
    moves (answered_with (record attempt { free_writes = suc attempt.free_writes }) answer.Done) (after_put key attempt.cursor (suc attempt.free_writes) v store) (line.Put key v (seqnum attempt.cursor) (suc attempt.free_writes))

abbrev pub writes : Setup → Attempt → Store → Sent → List ℕ → Value → Mode → Bool → Move
writes setup attempt store at key v W false = free_write_step (put_at key attempt.cursor (suc attempt.free_writes) store) attempt store key v
writes setup attempt store at key v _ _ = logged_write_step (is_inline setup attempt v) attempt.stored attempt store at key v

abbrev pub join_step : Attempt → Store → Sent → ℕ → Option Outcome → Move
join_step attempt store at ordinal None = moves attempt store (line.WaitsJoin (child attempt.path ordinal))
join_step attempt store at ordinal (Some outcome) =
    sends_record attempt store (body.Join attempt.path (next_index attempt.answers) ordinal) (line.SendJoin at (child attempt.path ordinal))

abbrev pub name_or_empty : Option Function → List ℕ
name_or_empty None = []
name_or_empty (Some f) = f.name

abbrev pub function_name : ℕ → List Function → List ℕ
function_name f fs = name_or_empty (function_at f fs)

abbrev pub operation_step : Setup → List Function → Attempt → Store → List (Live Body) → Sent → Op → Move
operation_step setup fs attempt store view at (op.Read key) = reads attempt store view at key attempt.mode
operation_step setup fs attempt store view at (op.ReadGroup keys) = reads_group attempt store view at keys attempt.mode
operation_step setup fs attempt store view at (op.Write key v) = writes setup attempt store at key v attempt.mode attempt.late
operation_step setup fs attempt store view at (op.Spawn ordinal f args) =
    sends_record attempt store (body.Spawn attempt.path (next_index attempt.answers) ordinal (function_name f fs) args) (line.SendSpawn at (child attempt.path ordinal) f args)
operation_step setup fs attempt store view at (op.Join ordinal) =
    join_step attempt store at ordinal (result_of (child attempt.path ordinal) view)
operation_step setup fs attempt store view at (op.Push queue v) =
    sends_record attempt store (body.Push attempt.path (next_index attempt.answers) queue v) (line.SendPush at queue v)
operation_step setup fs attempt store view at (op.Pop queue) =
    sends_record attempt store (body.Pop attempt.path (next_index attempt.answers) queue) (line.SendPop at queue)
operation_step setup fs attempt store view at (op.Begin names) =
    sends_record attempt store (body.TxnBegin attempt.path (next_index attempt.answers) names) (line.SendBegin at names)
operation_step setup fs attempt store view at (op.Commit names ws) =
    sends_record attempt store (body.TxnCommit attempt.path (next_index attempt.answers) (unwrap_or attempt.transaction 0) names ws) (line.SendCommit at ws)

-- The cases in order.

abbrev pub unless_waiting : Bool → Attempt → Store → Move → Move
unless_waiting true attempt store other = moves attempt store line.WaitsRecord
unless_waiting false attempt store other = other

-- the script's next operation, or its end, where no record answers it
abbrev pub script_step : Setup → List Function → Attempt → Store → List (Live Body) → Sent → Option Ask → Move
script_step setup fs attempt store view at None = moves attempt store line.Idle
script_step setup fs attempt store view at (Some (ask.Done outcome)) =
    sends_record attempt store (body.Finish attempt.path (next_index attempt.answers) outcome) (line.SendFinish at outcome)
script_step setup fs attempt store view at (Some (ask.Op op)) = operation_step setup fs attempt store view at op

-- the record at the place, where a next operation is asked and the record has its index
abbrev pub has_index : ℕ → Option (List ℕ × ℕ) → Bool
has_index n None = false
has_index n (Some s) = n == s.1

abbrev pub answers_to : Attempt → Option Ask → Option (Live Body) → Option (Live Body)
answers_to attempt (Some (ask.Op op)) (Some x) = if has_index (next_index attempt.answers) (step_of x.holds) then Some x else None
answers_to attempt _ _ = None

abbrev pub adopt_or : Attempt → Store → List (Live Body) → Option (Live Body) → Move → Move
adopt_or attempt store view None other = other
adopt_or attempt store view (Some x) other = adopts_operation attempt store view x.seq x.holds other

-- the Init at place 0 sets the mode, the function and the arguments
abbrev pub init_step : Setup → List Function → Attempt → Store → List (Live Body) → Sent → Call → Option (Live Body) → Move
init_step setup fs attempt store view at call (Some x) = let mode = mode_after setup.mode (records_below x.seq view) in
    moves (record (adopts attempt x.seq) { mode = mode; function = unwrap_or (find call.function fs) 0; args = call.args }) store (line.AdoptInit (seqnum x.seq) mode)
init_step setup fs attempt store view at call None =
    unless_waiting attempt.waiting attempt store (sends_record attempt store (body.Init attempt.path) (line.SendInit at))

abbrev pub attempt_ask : List Function → Attempt → Option Ask
attempt_ask fs attempt = next_ask fs attempt.function attempt.args (length attempt.path) attempt.answers

abbrev pub continue_step : Setup → List Function → Attempt → Store → List (Live Body) → Sent → Option Ask → Move
continue_step setup fs attempt store view at ask =
    adopt_or attempt store view (answers_to attempt ask (nth (step_tag attempt.path) attempt.place view))
    (unless_waiting attempt.waiting attempt store (script_step setup fs attempt store view at ask))

abbrev pub step_at_place : Setup → List Function → Attempt → Store → List (Live Body) → Sent → Call → ℕ → Move
step_at_place setup fs attempt store view at call zero = init_step setup fs attempt store view at call (nth (step_tag attempt.path) 0 view)
step_at_place setup fs attempt store view at call (suc place) = continue_step setup fs attempt store view at (attempt_ask fs attempt)

abbrev pub step_when_called : Setup → List Function → Attempt → Store → List (Live Body) → Sent → Option Outcome → Option Call → Move
step_when_called setup fs attempt store view at (Some outcome) call = moves (record attempt { life = Over }) store (line.Over outcome)
step_when_called setup fs attempt store view at None None = moves attempt store line.WaitsCall
step_when_called setup fs attempt store view at None (Some call) = step_at_place setup fs attempt store view at call attempt.place

abbrev pub step_if_running : Setup → List Function → Attempt → Store → List (Live Body) → Sent → Life → Move
step_if_running setup fs attempt store view at Running =
    step_when_called setup fs attempt store view at (result_of attempt.path view) (call_of attempt.path view)
step_if_running setup fs attempt store view at _ = moves attempt store line.Idle

-- one step; a record that is sent stands at `at`
abbrev pub step : Setup → List Function → Store → List (Live Body) → Sent → Attempt → Move
step setup fs store view at attempt = step_if_running setup fs attempt store view at attempt.life

-- Three things that happen to an attempt. It forgets the record that it waits for; it is killed.

abbrev pub is_running : Life → Bool
is_running Running = true
is_running _ = false

abbrev pub can_lose : Attempt → Bool
can_lose attempt = is_running attempt.life && attempt.waiting

abbrev pub after_lose : Attempt → Attempt
after_lose attempt = if can_lose attempt then record attempt { waiting = false } else attempt

abbrev pub after_kill : Attempt → Attempt
after_kill attempt = if is_running attempt.life then record attempt { life = Killed } else attempt

-- And the store call of its next step is made, while its answer is lost: the attempt stays as it is.

pub record Missed : Type 0 where
  pub store : Store
  pub what : Miss

abbrev pub nothing_missed : Store → Missed
nothing_missed store = record { store = store; what = missed_call.Nothing }

abbrev pub misses_marker : Store → ℕ → List (List ℕ) → Missed
misses_marker store seq keys = if nat_lt seq store.floor then nothing_missed store
    else record { store = after_read_fenced keys seq store; what = missed_call.Fence }

abbrev pub misses_record : Store → ℕ → Body → Missed
misses_record store seq (body.Read p i key) = misses_marker store seq (key ∷ [])
misses_record store seq (body.ReadGroup p i keys) = misses_marker store seq keys
misses_record store seq _ = nothing_missed store

abbrev pub misses_put : Put → Attempt → Store → List ℕ → Value → Missed
misses_put put_result.Done attempt store key v =
    record { store = after_put key attempt.cursor (suc attempt.free_writes) v store; what = missed_call.Put }
misses_put _ attempt store key v = nothing_missed store

abbrev pub misses_store : Bool → Attempt → Store → Value → Missed
misses_store true attempt store v = nothing_missed store
misses_store false attempt store v =
    record { store = after_put_named (next_write_name attempt) attempt.cursor v store; what = missed_call.Store }

abbrev pub misses_write : Setup → Attempt → Store → List ℕ → Value → Mode → Bool → Missed
misses_write setup attempt store key v W false = misses_put (put_at key attempt.cursor (suc attempt.free_writes) store) attempt store key v
misses_write setup attempt store key v _ _ =
    if is_inline setup attempt v || attempt.stored then nothing_missed store
    else misses_store (nat_lt attempt.cursor store.floor) attempt store v

abbrev pub misses_asked : Setup → Attempt → Store → Option Ask → Missed
misses_asked setup attempt store (Some (ask.Op (op.Write key v))) =
    misses_write setup attempt store key v attempt.mode attempt.late
misses_asked setup attempt store _ = nothing_missed store

abbrev pub misses_at : Setup → Attempt → Store → Option Ask → Option (Live Body) → Missed
misses_at setup attempt store ask (Some x) = misses_record store x.seq x.holds
misses_at setup attempt store ask None = if attempt.waiting then nothing_missed store else misses_asked setup attempt store ask

abbrev pub misses_placed : Setup → List Function → Attempt → Store → List (Live Body) → ℕ → Missed
misses_placed setup fs attempt store view zero = nothing_missed store
misses_placed setup fs attempt store view (suc place) =
    misses_at setup attempt store (attempt_ask fs attempt) (answers_to attempt (attempt_ask fs attempt) (nth (step_tag attempt.path) attempt.place view))

abbrev pub misses_with : Setup → List Function → Attempt → Store → List (Live Body) → Option Outcome → Option Call → Missed
misses_with setup fs attempt store view None (Some call) = misses_placed setup fs attempt store view attempt.place
misses_with setup fs attempt store view _ _ = nothing_missed store

abbrev pub misses_if : Setup → List Function → Attempt → Store → List (Live Body) → Life → Missed
misses_if setup fs attempt store view Running =
    misses_with setup fs attempt store view (result_of attempt.path view) (call_of attempt.path view)
misses_if setup fs attempt store view _ = record { store = store; what = missed_call.Idle }

abbrev pub miss : Setup → List Function → Store → List (Live Body) → Attempt → Missed
miss setup fs store view attempt = misses_if setup fs attempt store view attempt.life
