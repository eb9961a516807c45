-- The statement of the central theorem rests on this file.
-- The machine: shards with their replicas, the metalog, engines, the object store and attempts. One event gives the next
-- state and one line. It scans whole lists, and runs each script from its start.
use Rattle.std.specs.Prelude.{ℕ, suc, ◌+◌, ◌-◌, ◌%◌, ◌==◌, ◌&&◌, not, nat_le, min, Bool, true, false, if◌then◌else◌, List, [], ◌∷◌, ◌++◌, length, map, take, Option, Some, None, replicate, slice_index, slice_index_or, slice_set}
use Rattle.std.specs.List.{filter}
use Rattle.lb_base.specs.declared.value.Value.{Value}
use Rattle.lb_base.specs.declared.value.Tag.{Tag}
use Rattle.lb_base.specs.declared.value.Cond.{Cond}
use Rattle.boki_types.specs.declared.body.Body.{Body}
use Rattle.boki_types.specs.declared.body.Body.TheVariants as body
use Rattle.boki_types.specs.declared.event.Event.{Event}
use Rattle.boki_types.specs.declared.event.Event.TheVariants as event
use Rattle.boki_types.specs.declared.line.Line.{Line}
use Rattle.boki_types.specs.declared.line.Line.TheVariants as line
use Rattle.boki_types.specs.declared.log.Sent.{Sent}
use Rattle.boki_types.specs.declared.plan.Setup.{Setup}
use Rattle.boki_types.specs.declared.plan.Plan.{Plan}
use Rattle.boki_types.specs.declared.program.Function.{Function}
use Rattle.boki_model.specs.Order.{order, progress, last_vector, seq_of}
use Rattle.boki_model.specs.Entries.{same_counts}
use Rattle.boki_model.specs.Live.{LogRecord, Live, live, upto, is_live}
use Rattle.boki_model.specs.Reads.{read_next, read_prev}
use Rattle.boki_model.specs.Bodies.{tags_of, tag_of, path_number, trim_of}
use Rattle.boki_model.specs.Modes.{Switch, modes, least_open}
use Rattle.boki_model.specs.Floor.{floor, trim_limit}
use Rattle.boki_model.specs.Writes.{Store, initial_store, after_sweep, held_count}
use Rattle.boki_model.specs.Plans.{events}
use Rattle.boki_machine.specs.Attempt.{Attempt, Move, new_attempt}
use Rattle.boki_machine.specs.Step.{seqnum, step, is_running, can_lose, after_lose, after_kill, Missed, miss, function_name}
use Rattle.boki_model.specs.declared.limits.TheConstants.{MAX_AUX_ENTRIES}
use Rattle.boki_model.specs.declared.tag_classes.TheConstants.{USER_CLASS, CALL_CLASS}

-- auxiliary data of a record on one engine
pub record Aux : Type 0 where
  pub seq : ℕ
  pub text : List ℕ

-- an attempt under its number
pub record NumberedAttempt : Type 0 where
  pub number : ℕ
  pub attempt : Attempt

-- the records of each shard, the oldest first, and the counts of its replicas from the second on; the vectors, the newest
-- first; per engine its position and its auxiliary data, the most recently used first; the store; and the attempts
pub record Machine : Type 0 where
  pub shards : List (List (LogRecord Body))
  pub counts : List (List ℕ)
  pub vectors : List (List ℕ)
  pub positions : List ℕ
  pub aux : List (List Aux)
  pub store : Store
  pub attempts : List NumberedAttempt

-- what an event does: the machine behind it, and the line
pub record EventResult : Type 0 where
  pub machine : Machine
  pub line : Line

abbrev pub event_result : Machine → Line → EventResult
event_result m line = record { machine = m; line = line }

abbrev pub initial_machine : Setup → List (List ℕ × Value) → Machine
initial_machine setup objects = record {
  shards = replicate setup.shards [];
  counts = replicate setup.shards (replicate (setup.replicas - 1) 0);
  vectors = [];
  positions = replicate setup.engines 0;
  aux = replicate setup.engines [];
  store = initial_store objects;
  attempts = [];
}

-- the ordered list, and its live records, the newest first
abbrev pub log : Machine → List (LogRecord Body)
log m = order m.shards m.vectors

abbrev pub live_records : Machine → List (Live Body)
live_records m = live (log m)

abbrev pub position : Machine → ℕ → ℕ
position m engine = slice_index m.positions (engine - 1)

-- what an engine sees
abbrev pub view : Machine → ℕ → List (Live Body)
view m engine = upto (position m engine) (live_records m)

-- Appending.

abbrev pub home_shard : Setup → ℕ → ℕ
home_shard setup engine = suc ((engine - 1) % setup.shards)

abbrev pub shard_records : Machine → ℕ → List (LogRecord Body)
shard_records m shard = slice_index_or m.shards (shard - 1) []

-- where an engine's next record will stand
abbrev pub next_sent : Setup → Machine → ℕ → Sent
next_sent setup m engine = record { shard = home_shard setup engine; local = suc (length (shard_records m (home_shard setup engine))) }

abbrev pub append_to : ℕ → LogRecord Body → Machine → Machine
append_to shard r m = record m { shards = slice_set m.shards (shard - 1) (shard_records m shard ++ r ∷ []) }

abbrev pub append : Setup → ℕ → LogRecord Body → Machine → Machine
append setup engine r m = append_to (home_shard setup engine) r m

abbrev pub log_record : List Tag → Option Cond → Body → LogRecord Body
log_record tags condition body = record { tags = tags; condition = condition; holds = body }

-- a record without a condition
abbrev pub unconditional_record : Body → LogRecord Body
unconditional_record body = log_record (tags_of body) None body

abbrev pub submit_record : List ℕ → List ℕ → List Value → LogRecord Body
submit_record path f args =
    log_record (tags_of (body.Submit path f args)) (Some (record { tag = tag_of CALL_CLASS (path_number path); place = 0 })) (body.Submit path f args)

abbrev pub first_tag : List Tag → Tag
first_tag [] = tag_of USER_CLASS 0
first_tag (t ∷ ts) = t

abbrev pub sends : Setup → Machine → ℕ → LogRecord Body → EventResult
sends setup m engine r = event_result (append setup engine r m) (line.Sent (next_sent setup m engine))

-- Ordering.

-- the lesser of n and what the replica lacks is copied
abbrev pub replica_counts : Machine → ℕ → List ℕ
replica_counts m shard = slice_index_or m.counts (shard - 1) []

abbrev pub copied_count : Machine → ℕ → ℕ → ℕ → ℕ
copied_count m shard replica n = min n (length (shard_records m shard) - slice_index (replica_counts m shard) (replica - 2))

abbrev pub after_copy : Machine → ℕ → ℕ → ℕ → Machine
after_copy m shard replica n = let counts = replica_counts m shard in
    record m { counts = slice_set m.counts (shard - 1) (slice_set counts (replica - 2) (slice_index counts (replica - 2) + n)) }

abbrev pub cuts_nothing : Machine → Bool
cuts_nothing m = same_counts (progress m.shards m.counts) (last_vector m.vectors)

abbrev pub cut : Machine → Machine
cut m = if cuts_nothing m then m else record m { vectors = progress m.shards m.counts ∷ m.vectors }

abbrev pub cut_line : Bool → Machine → Line
cut_line true m = line.Same
cut_line false m = line.Cut (length m.vectors) (length (log m))

abbrev pub catch_up : ℕ → Machine → Machine
catch_up engine m = record m { positions = slice_set m.positions (engine - 1) (length (log m)) }

abbrev pub catch_up_all : Machine → Machine
catch_up_all m = record m { positions = map (λ p. length (log m)) m.positions }

-- Attempts.

abbrev pub attempt_at : ℕ → List NumberedAttempt → Option Attempt
attempt_at n [] = None
attempt_at n (x ∷ xs) = if n == x.number then Some x.attempt else attempt_at n xs

abbrev pub set_attempt : ℕ → Attempt → List NumberedAttempt → List NumberedAttempt
set_attempt n a [] = []
set_attempt n a (x ∷ xs) = if n == x.number then record { number = n; attempt = a } ∷ xs else x ∷ set_attempt n a xs

abbrev pub with_attempt : ℕ → Attempt → Machine → Machine
with_attempt n a m = record m { attempts = set_attempt n a m.attempts }

abbrev pub runs_on : ℕ → Attempt → Bool
runs_on engine a = is_running a.life && (engine == a.engine)

abbrev pub kill_if_on : ℕ → NumberedAttempt → NumberedAttempt
kill_if_on engine x = if runs_on engine x.attempt then record x { attempt = after_kill x.attempt } else x

abbrev pub kill_on : ℕ → List NumberedAttempt → List NumberedAttempt
kill_on engine xs = map (kill_if_on engine) xs

abbrev pub restart_engine : ℕ → Machine → Machine
restart_engine engine m = record m {
  positions = slice_set m.positions (engine - 1) 0;
  aux = slice_set m.aux (engine - 1) [];
  attempts = kill_on engine m.attempts;
}

abbrev pub start_attempt : Machine → ℕ → List ℕ → ℕ → Option Attempt → EventResult
start_attempt m n path engine None =
    event_result (record m { attempts = record { number = n; attempt = new_attempt path engine } ∷ m.attempts }) line.Started
start_attempt m n path engine (Some a) = event_result m line.Ignored

abbrev pub append_sent : Setup → ℕ → Option (LogRecord Body) → Machine → Machine
append_sent setup engine None m = m
append_sent setup engine (Some r) m = append setup engine r m

abbrev pub apply_move : Setup → Machine → ℕ → ℕ → Move → EventResult
apply_move setup m n engine move =
    event_result (append_sent setup engine move.sends (with_attempt n move.attempt (record m { store = move.store }))) (line.Step move.line)

abbrev pub step_attempt : Setup → List Function → Machine → ℕ → Option Attempt → EventResult
step_attempt setup fs m n None = event_result m line.Ignored
step_attempt setup fs m n (Some a) = apply_move setup m n a.engine (step setup fs m.store (view m a.engine) (next_sent setup m a.engine) a)

abbrev pub kill_attempt : Machine → ℕ → Option Attempt → EventResult
kill_attempt m n None = event_result m line.Ignored
kill_attempt m n (Some a) = event_result (with_attempt n (after_kill a) m) (if is_running a.life then line.Killed else line.Idle)

abbrev pub lose_record : Machine → ℕ → Option Attempt → EventResult
lose_record m n None = event_result m line.Ignored
lose_record m n (Some a) = event_result (with_attempt n (after_lose a) m) (if can_lose a then line.Lost else line.Nothing)

abbrev pub apply_miss : Machine → Missed → EventResult
apply_miss m x = event_result (record m { store = x.store }) (line.Missed x.what)

abbrev pub miss_attempt : Setup → List Function → Machine → Option Attempt → EventResult
miss_attempt setup fs m None = event_result m line.Ignored
miss_attempt setup fs m (Some a) = apply_miss m (miss setup fs m.store (view m a.engine) a)

-- Switches, trims and sweeps.

abbrev pub end_if_all_ended : Setup → Machine → ℕ → Option (List ℕ) → EventResult
end_if_all_ended setup m engine None = sends setup m engine (unconditional_record body.SwitchEnd)
end_if_all_ended setup m engine (Some path) = event_result m (line.Unfinished path)

abbrev pub send_switch_end : Setup → Machine → ℕ → List (Live Body) → Option Switch → EventResult
send_switch_end setup m engine seen None = event_result m line.Absent
send_switch_end setup m engine seen (Some s) = end_if_all_ended setup m engine (least_open s.begun seen)

abbrev pub send_trim : Setup → Machine → ℕ → ℕ → EventResult
send_trim setup m engine w = event_result (append setup engine (unconditional_record (body.Trim w)) m) (line.Trimmed (next_sent setup m engine) (seqnum w))

abbrev pub sweep_store : Machine → ℕ → EventResult
sweep_store m engine = let store = after_sweep (floor (view m engine)) m.store in
    event_result (record m { store = store }) (line.Floor (seqnum store.floor) (held_count store (live_records m)))

-- Reads by user tags.

abbrev pub user_text : Body → List ℕ
user_text (body.User bytes) = bytes
user_text _ = []

abbrev pub user_text_at : ℕ → List (Live Body) → List ℕ
user_text_at seq [] = []
user_text_at seq (x ∷ xs) = if seq == x.seq then user_text x.holds else user_text_at seq xs

abbrev pub found_line : List (Live Body) → Option ℕ → Line
found_line seen None = line.Absent
found_line seen (Some seq) = line.Found (seqnum seq) (user_text_at seq seen)

-- what became of an appended record: an engine knows once its position covers it
abbrev pub settle_line : ℕ → List (Live Body) → Option ℕ → Line
settle_line p seen None = line.Waits
settle_line p seen (Some seq) =
    if nat_le seq p then (if is_live seq seen then line.Placed (seqnum seq) else line.Taken (seqnum seq)) else line.Waits

-- Auxiliary data: at most 64 entries an engine, the most recently used first.

abbrev pub aux_of : Machine → ℕ → List Aux
aux_of m engine = slice_index_or m.aux (engine - 1) []

abbrev pub aux_at : ℕ → List Aux → Option (List ℕ)
aux_at seq [] = None
aux_at seq (x ∷ xs) = if seq == x.seq then Some x.text else aux_at seq xs

abbrev pub move_to_front : ℕ → List ℕ → List Aux → List Aux
move_to_front seq text xs = take MAX_AUX_ENTRIES (record { seq = seq; text = text } ∷ filter (λ x. not (seq == x.seq)) xs)

abbrev pub with_aux : Machine → ℕ → ℕ → List ℕ → Machine
with_aux m engine seq text = record m { aux = slice_set m.aux (engine - 1) (move_to_front seq text (aux_of m engine)) }

abbrev pub set_aux : Machine → ℕ → ℕ → List ℕ → EventResult
set_aux m engine seq text =
    if nat_le 1 seq && nat_le seq (position m engine) then event_result (with_aux m engine seq text) line.Set else event_result m line.Absent

abbrev pub get_aux : Machine → ℕ → ℕ → Option (List ℕ) → EventResult
get_aux m engine seq None = event_result m line.Absent
get_aux m engine seq (Some text) = event_result (with_aux m engine seq text) (line.Aux text)

-- One event.
abbrev pub apply_event : Setup → List Function → Machine → Event → EventResult
apply_event setup fs m (event.Submit engine request f args) = sends setup m engine (submit_record (request ∷ []) (function_name f fs) args)
apply_event setup fs m (event.Copy shard replica n) =
    let count = copied_count m shard replica n in event_result (after_copy m shard replica count) (line.Copied count)
apply_event setup fs m event.Cut = event_result (cut m) (cut_line (cuts_nothing m) (cut m))
apply_event setup fs m (event.Catch engine) = event_result (catch_up engine m) (line.At (length (log m)))
apply_event setup fs m event.Sync = let n = cut m in event_result (catch_up_all n) (line.Sync (length (log n)))
apply_event setup fs m (event.Restart engine) =
    event_result (restart_engine engine m) (line.Restarted (length (filter (λ x. runs_on engine x.attempt) m.attempts)))
apply_event setup fs m (event.Start n path engine) = start_attempt m n path engine (attempt_at n m.attempts)
apply_event setup fs m (event.Step n) = step_attempt setup fs m n (attempt_at n m.attempts)
apply_event setup fs m (event.Kill n) = kill_attempt m n (attempt_at n m.attempts)
apply_event setup fs m (event.Lose n) = lose_record m n (attempt_at n m.attempts)
apply_event setup fs m (event.Miss n) = miss_attempt setup fs m (attempt_at n m.attempts)
apply_event setup fs m (event.Switch engine target) = sends setup m engine (unconditional_record (body.SwitchBegin target))
apply_event setup fs m (event.EndSwitch engine) =
    let seen = view m engine in send_switch_end setup m engine seen (modes setup.mode seen).pending
apply_event setup fs m (event.Trim engine) = send_trim setup m engine (trim_limit (position m engine) (view m engine))
apply_event setup fs m (event.Sweep engine) = sweep_store m engine
apply_event setup fs m (event.Append engine tags text) = sends setup m engine (log_record tags None (body.User text))
apply_event setup fs m (event.Cond engine place tags text) =
    sends setup m engine (log_record tags (Some (record { tag = first_tag tags; place = place })) (body.User text))
apply_event setup fs m (event.Next engine tag from) =
    let seen = view m engine in event_result m (found_line seen (read_next trim_of tag.0 from.0 seen))
apply_event setup fs m (event.Prev engine tag upto) =
    let seen = view m engine in event_result m (found_line seen (read_prev trim_of tag.0 upto.0 seen))
apply_event setup fs m (event.Tail engine tag) =
    let seen = view m engine in event_result m (found_line seen (read_prev trim_of tag.0 (position m engine) seen))
apply_event setup fs m (event.TrimTag engine tag upto) = sends setup m engine (unconditional_record (body.TrimTag tag.0 upto.0))
apply_event setup fs m (event.Settled engine shard local) =
    event_result m (settle_line (position m engine) (view m engine) (seq_of shard local m.shards m.vectors))
apply_event setup fs m (event.SetAux engine seq text) = set_aux m engine seq.0 text
apply_event setup fs m (event.GetAux engine seq) = get_aux m engine seq.0 (aux_at seq.0 (aux_of m engine))
apply_event setup fs m (event.Seed n) = event_result m line.Seeded

-- Events in order: the lines, and the machine behind them.
pub record RunResult : Type 0 where
  pub machine : Machine
  pub lines : List Line

abbrev pub add_line : Line → RunResult → RunResult
add_line line r = record r { lines = line ∷ r.lines }

abbrev pub apply_events : Setup → List Function → List Event → Machine → RunResult
apply_events setup fs [] m = record { machine = m; lines = [] }
apply_events setup fs (e ∷ es) m = let d = apply_event setup fs m e in add_line d.line (apply_events setup fs es d.machine)

abbrev pub run_plan : Plan → RunResult
run_plan p = apply_events p.setup p.program.functions (events p.items) (initial_machine p.setup p.objects)
