-- Each event gives an attempt at most one answer, and the store at most one version.
use Rattle.std.proofs.Common.{◌≡◌, ℕ, zero, suc, ◌+◌, ◌-◌, ◌≤◌, Bool, true, false, cond, eqb, leb, ltb, ◌&&◌, ◌||◌, List, [], ◌∷◌, length, Option, Some, None, refl, sym, ◌∙◌, subst, arith}
use Rattle.std.specs.Prelude.{replicate, bytes_eq}
use Rattle.std.specs.List.{filter, AllByRecursion}
use Rattle.lb_base.specs.declared.value.Value.{Value}
use Rattle.lb_base.specs.declared.value.Mode.{Mode}
use Rattle.lb_base.specs.declared.value.Mode.TheVariants.{R, W, T}
use Rattle.lb_base.specs.declared.value.Outcome.{Outcome}
use Rattle.boki_types.specs.declared.body.Body.{Body}
use Rattle.boki_types.specs.declared.body.Body.TheVariants as b
use Rattle.boki_types.specs.declared.event.Event.{Event}
use Rattle.boki_types.specs.declared.event.Event.TheVariants as v
use Rattle.boki_types.specs.declared.line.Line.TheVariants as l
use Rattle.boki_types.specs.declared.line.Life.{Life}
use Rattle.boki_types.specs.declared.line.Life.TheVariants.{Running, Over, Stopped, Killed}
use Rattle.boki_types.specs.declared.line.StepLine.{StepLine}
use Rattle.boki_types.specs.declared.line.StepLine.TheVariants as line
use Rattle.boki_types.specs.declared.log.Call.{Call}
use Rattle.boki_types.specs.declared.log.Sent.{Sent}
use Rattle.boki_types.specs.declared.operation.Op.{Op}
use Rattle.boki_types.specs.declared.operation.Op.TheVariants as o
use Rattle.boki_types.specs.declared.operation.Ask.{Ask}
use Rattle.boki_types.specs.declared.operation.Ask.TheVariants as k
use Rattle.boki_types.specs.declared.operation.Answer.{Answer}
use Rattle.boki_types.specs.declared.plan.Setup.{Setup}
use Rattle.boki_types.specs.declared.program.Function.{Function}
use Rattle.boki_types.specs.declared.store.Name.{Name}
use Rattle.boki_types.specs.declared.line.Miss.TheVariants as what
use Rattle.boki_types.specs.declared.store.Put.{Put}
use Rattle.boki_types.specs.declared.store.Put.TheVariants as put
use Rattle.boki_model.specs.Live.{LogRecord, Live, live, meets_condition}
use Rattle.boki_model.specs.Reads.{nth}
use Rattle.boki_model.specs.Bodies.{step_tag, step_of, child}
use Rattle.boki_model.specs.Floor.{trim_limit}
use Rattle.boki_model.specs.Maps.{get, put as put_in}
use Rattle.boki_model.specs.Modes.{Switch, least_open, modes, result_of}
use Rattle.boki_model.specs.Order.{progress}
use Rattle.boki_model.specs.Writes.{Store, Version, versions_at, put_at, puts_version, after_put, after_read_fenced, after_put_named, raise_fences, add_if_new}
use Rattle.boki_machine.specs.Attempt.{Attempt, Move, moves, sends_record, next_index, call_of}
use Rattle.boki_machine.specs.Step.{Missed, next_write_name, function_name, has_index, stop_gone, adopts_answer, adopts_marker, adopts_join, adopts_operation, reads, reads_group, logged_write_step, is_inline, free_write_step, writes, join_step, operation_step, unless_waiting, script_step, answers_to, adopt_or, init_step, attempt_ask, step_at_place, step_when_called, step_if_running, step, is_running, can_lose, after_lose, after_kill, misses_marker, misses_record, misses_put, misses_store, misses_write, misses_asked, misses_at, misses_placed, misses_with, misses_if, miss, nothing_missed}
use Rattle.boki_machine.specs.Machine.{NumberedAttempt, Machine, initial_machine, log, live_records, view, position, event_result, home_shard, next_sent, append_to, log_record, unconditional_record, submit_record, first_tag, cut, cuts_nothing, attempt_at, set_attempt, with_attempt, runs_on, kill_on, start_attempt, append_sent, apply_move, step_attempt, kill_attempt, lose_record, miss_attempt, end_if_all_ended, send_switch_end, with_aux, set_aux, get_aux, aux_at, aux_of, apply_event, apply_events}
use Rattle.boki_machine.specs.Turns.{operation_count, operation_turn, turn_of, turns_to, add_next_index}
use Rattle.exactly_once.specs.Induction.EventKeeps.{MachineHolds}
use Rattle.exactly_once.specs.FurtherLaws.Words.{IsAmong, all_records}
use Rattle.exactly_once.proofs.Log.ListElements.{each_append, each_weaker}
use Rattle.exactly_once.proofs.Machines.EventKeeps.{events_keep}
use Rattle.exactly_once.proofs.Machines.ExactlyOnce.{opens, run_holds}
use Rattle.exactly_once.proofs.Attempts.LostAnswerKeeps.{misses_keep}
use Rattle.exactly_once.proofs.Attempts.StepKeeps.{moves_keep}
use Rattle.exactly_once.proofs.OldVersions.VersionKeeps.{versions_keep}
use Rattle.exactly_once.proofs.Log.MapChanges.{get-put}
use Rattle.exactly_once.proofs.Invariant.OrderedRecord.{among_each}
use Rattle.exactly_once.proofs.Machines.ShardsAndVectors.{each_add}
use Rattle.judge_agrees.specs.Counts.{HasAtMost, HaveAtMost, CountsAreFew}

-- a step record's index is from 1 to n
abbrev IsWithin : ℕ → Option (List ℕ × ℕ) → Type 0
IsWithin n None = Unit {0}
IsWithin n (Some s) = (1 ≤ s.1) × (s.1 ≤ n)

abbrev Indexed : ℕ → LogRecord Body → Type 0
Indexed n r = IsWithin n (step_of r.holds)

abbrev SomeIndexed : ℕ → Option (LogRecord Body) → Type 0
SomeIndexed n None = Unit {0}
SomeIndexed n (Some r) = Indexed n r

-- A step.

record IsMove (n versions : ℕ) (move : Move) : Type 0 where
  answers : length move.attempt.answers ≤ n
  sent : SomeIndexed n move.sends
  versions_are : length move.store.versions ≤ suc versions

put_length : (key : List ℕ) (cursor k : ℕ) (value : Value) (store : Store) → length (after_put key cursor k value store).versions ≤ suc (length store.versions)
put_length key cursor k value store = at (puts_version key cursor k store)
  where
    at : (t : Bool) → length (cond t (record store { versions = record { key = key; cursor = cursor; number = k; value = value } ∷ store.versions }) store).versions ≤ suc (length store.versions)
    at true = omega arith
    at false = omega arith

fenced_length : (keys : List (List ℕ)) (seq : ℕ) (store : Store) → length (after_read_fenced keys seq store).versions ≤ suc (length store.versions)
fenced_length keys seq store = at (ltb seq store.floor)
  where
    at : (t : Bool) → length (cond t store (record store { fences = raise_fences keys seq store.fences })).versions ≤ suc (length store.versions)
    at true = omega arith
    at false = omega arith

named_length : (name : Name) (cursor : ℕ) (value : Value) (store : Store) → length (after_put_named name cursor value store).versions ≤ suc (length store.versions)
named_length name cursor value store = at (ltb cursor store.floor)
  where
    at : (t : Bool) → length (cond t store (record store { named = add_if_new name value store.named })).versions ≤ suc (length store.versions)
    at true = omega arith
    at false = omega arith

module _ (setup : Setup) (fs : List Function) (t : Attempt) (store : Store) (seen : List (Live Body)) (at : Sent) where
  abbrev Is : Move → Type 0
  Is move = IsMove (suc (length t.answers)) (length store.versions) move

  stays : (line : StepLine) → Is (moves t store line)
  stays line = record { answers = omega arith; sent = tt; versions_are = omega arith }

  on_test : (b : Bool) (one other : Move) → Is one → Is other → Is (cond b one other)
  on_test true one other is not_it = is
  on_test false one other is not_it = not_it

  gone_is : Is (stop_gone t store)
  gone_is = record { answers = omega arith; sent = tt; versions_are = omega arith }

  sends_is : (body : Body) (line : StepLine) → IsWithin (suc (length t.answers)) (step_of body) → Is (sends_record t store body line)
  sends_is body line within = record { answers = omega arith; sent = within; versions_are = omega arith }

  here : (1 ≤ next_index t.answers) × (next_index t.answers ≤ suc (length t.answers))
  here = (omega arith, omega arith)

  answer_is : (begun : Option ℕ) (seq : ℕ) (answer : Answer) (line : StepLine) → Is (adopts_answer (record t { transaction = begun }) store seq answer line)
  answer_is begun seq answer line = record { answers = omega arith; sent = tt; versions_are = omega arith }

  adopted_is : (seq : ℕ) (answer : Answer) (line : StepLine) → Is (adopts_answer t store seq answer line)
  adopted_is seq answer line = record { answers = omega arith; sent = tt; versions_are = omega arith }

  marker_is : (seq : ℕ) (keys : List (List ℕ)) (answer : Answer) (line : StepLine) → Is (adopts_marker t store seq keys answer line)
  marker_is seq keys answer line =
      on_test (ltb seq store.floor) (stop_gone t store) (adopts_answer t (after_read_fenced keys seq store) seq answer line) gone_is
      (record { answers = omega arith; sent = tt; versions_are = fenced_length keys seq store })

  join_is : (seq : ℕ) (p : List ℕ) (r : Option Outcome) → Is (adopts_join t store seq p r)
  join_is seq p None = stays _
  join_is seq p (Some outcome) = adopted_is seq _ _

  record_is : (seq : ℕ) (body : Body) (other : Move) → Is other → Is (adopts_operation t store seen seq body other)
  record_is seq (b.Read p i key) other is = marker_is seq (key ∷ []) _ _
  record_is seq (b.ReadGroup p i keys) other is = marker_is seq keys _ _
  record_is seq (b.Write p i place key value) other is = adopted_is seq _ _
  record_is seq (b.Spawn p i ordinal f args) other is = adopted_is seq _ _
  record_is seq (b.Join p i ordinal) other is = join_is seq (child p ordinal) (result_of (child p ordinal) seen)
  record_is seq (b.Push p i queue value) other is = adopted_is seq _ _
  record_is seq (b.Pop p i queue) other is = adopted_is seq _ _
  record_is seq (b.TxnBegin p i names) other is = answer_is (Some seq) seq _ _
  record_is seq (b.TxnCommit p i begin names writes) other is = answer_is None seq _ _
  record_is seq _ other is = is

  reads_is : (key : List ℕ) (mode : Mode) → Is (reads t store seen at key mode)
  reads_is key R = on_test (ltb t.cursor store.floor) _ _ gone_is (record { answers = omega arith; sent = tt; versions_are = omega arith })
  reads_is key W = record { answers = omega arith; sent = here; versions_are = omega arith }
  reads_is key T = record { answers = omega arith; sent = here; versions_are = omega arith }

  group_is : (keys : List (List ℕ)) (mode : Mode) → Is (reads_group t store seen at keys mode)
  group_is keys R = on_test (ltb t.cursor store.floor) _ _ gone_is (record { answers = omega arith; sent = tt; versions_are = omega arith })
  group_is keys W = record { answers = omega arith; sent = here; versions_are = omega arith }
  group_is keys T = record { answers = omega arith; sent = here; versions_are = omega arith }

  logs_is : (key : List ℕ) (v : Value) (inlined stored : Bool) → Is (logged_write_step inlined stored t store at key v)
  logs_is key v true stored = record { answers = omega arith; sent = here; versions_are = omega arith }
  logs_is key v false true = record { answers = omega arith; sent = here; versions_are = omega arith }
  logs_is key v false false =
      on_test (ltb t.cursor store.floor) (stop_gone t store) (moves (record t { stored = true }) (after_put_named (next_write_name t) t.cursor v store) (line.Store key v)) gone_is
      (record { answers = omega arith; sent = tt; versions_are = named_length (next_write_name t) t.cursor v store })

  puts_is : (key : List ℕ) (v : Value) (p : Put) → Is (free_write_step p t store key v)
  puts_is key v put.Gone = gone_is
  puts_is key v put.Late = record { answers = omega arith; sent = tt; versions_are = omega arith }
  puts_is key v put.Done = record { answers = omega arith; sent = tt; versions_are = put_length key t.cursor (suc t.free_writes) v store }

  writes_is : (key : List ℕ) (v : Value) (mode : Mode) (late : Bool) → Is (writes setup t store at key v mode late)
  writes_is key v W false = puts_is key v (put_at key t.cursor (suc t.free_writes) store)
  writes_is key v W true = logs_is key v (is_inline setup t v) t.stored
  writes_is key v R late = logs_is key v (is_inline setup t v) t.stored
  writes_is key v T late = logs_is key v (is_inline setup t v) t.stored

  joins_is : (ordinal : ℕ) (r : Option Outcome) → Is (join_step t store at ordinal r)
  joins_is ordinal None = stays _
  joins_is ordinal (Some outcome) = record { answers = omega arith; sent = here; versions_are = omega arith }

  operates_is : (op : Op) → Is (operation_step setup fs t store seen at op)
  operates_is (o.Read key) = reads_is key t.mode
  operates_is (o.ReadGroup keys) = group_is keys t.mode
  operates_is (o.Write key v) = writes_is key v t.mode t.late
  operates_is (o.Spawn ordinal f args) = record { answers = omega arith; sent = here; versions_are = omega arith }
  operates_is (o.Join ordinal) = joins_is ordinal (result_of (child t.path ordinal) seen)
  operates_is (o.Push queue v) = record { answers = omega arith; sent = here; versions_are = omega arith }
  operates_is (o.Pop queue) = record { answers = omega arith; sent = here; versions_are = omega arith }
  operates_is (o.Begin names) = record { answers = omega arith; sent = here; versions_are = omega arith }
  operates_is (o.Commit names ws) = record { answers = omega arith; sent = here; versions_are = omega arith }

  asks_is : (ask : Option Ask) → Is (script_step setup fs t store seen at ask)
  asks_is None = stays _
  asks_is (Some (k.Done outcome)) = record { answers = omega arith; sent = here; versions_are = omega arith }
  asks_is (Some (k.Op op)) = operates_is op

  waits_is : (waiting : Bool) (other : Move) → Is other → Is (unless_waiting waiting t store other)
  waits_is true other is = stays _
  waits_is false other is = is

  takes_is : (ask : Option Ask) (x : Option (Live Body)) (other : Move) → Is other → Is (adopt_or t store seen (answers_to t ask x) other)
  takes_is (Some (k.Op op)) (Some x) other is = by_index (has_index (next_index t.answers) (step_of x.holds))
    where
      by_index : (u : Bool) → Is (adopt_or t store seen (cond u (Some x) None) other)
      by_index true = record_is x.seq x.holds other is
      by_index false = is
  takes_is (Some (k.Op op)) None other is = is
  takes_is (Some (k.Done outcome)) x other is = is
  takes_is None x other is = is

  begins_is : (call : Call) (x : Option (Live Body)) → Is (init_step setup fs t store seen at call x)
  begins_is call (Some x) = record { answers = omega arith; sent = tt; versions_are = omega arith }
  begins_is call None = waits_is t.waiting _ (sends_is (b.Init t.path) (line.SendInit at) (omega arith, omega arith))

  placed_is : (call : Call) (place : ℕ) → Is (step_at_place setup fs t store seen at call place)
  placed_is call zero = begins_is call (nth (step_tag t.path) 0 seen)
  placed_is call (suc place) =
      takes_is (attempt_ask fs t) (nth (step_tag t.path) t.place seen) _
      (waits_is t.waiting (script_step setup fs t store seen at (attempt_ask fs t)) (asks_is (attempt_ask fs t)))

  call_is : (r : Option Outcome) (call : Option Call) → Is (step_when_called setup fs t store seen at r call)
  call_is (Some outcome) call = record { answers = omega arith; sent = tt; versions_are = omega arith }
  call_is None None = stays _
  call_is None (Some call) = placed_is call t.place

  running_is : (life : Life) → Is (step_if_running setup fs t store seen at life)
  running_is Running = call_is (result_of t.path seen) (call_of t.path seen)
  running_is Over = stays _
  running_is Stopped = stays _
  running_is Killed = stays _

  step_is : Is (step setup fs store seen at t)
  step_is = running_is t.life

  -- a store call whose answer is lost
  abbrev IsMissed : Missed → Type 0
  IsMissed x = length x.store.versions ≤ suc (length store.versions)

  missed_on : (b : Bool) (one other : Missed) → IsMissed one → IsMissed other → IsMissed (cond b one other)
  missed_on true one other is not_it = is
  missed_on false one other is not_it = not_it

  misses_marker_is : (seq : ℕ) (keys : List (List ℕ)) → IsMissed (misses_marker store seq keys)
  misses_marker_is seq keys = by (ltb seq store.floor)
    where
      by : (c : Bool) → IsMissed (cond c (nothing_missed store) (record { store = after_read_fenced keys seq store; what = what.Fence }))
      by true = omega arith
      by false = fenced_length keys seq store

  misses_record_is : (seq : ℕ) (body : Body) → IsMissed (misses_record store seq body)
  misses_record_is seq (b.Read p i key) = misses_marker_is seq (key ∷ [])
  misses_record_is seq (b.ReadGroup p i keys) = misses_marker_is seq keys
  misses_record_is seq _ = omega arith

  misses_put_is : (key : List ℕ) (v : Value) (p : Put) → IsMissed (misses_put p t store key v)
  misses_put_is key v put.Done = put_length key t.cursor (suc t.free_writes) v store
  misses_put_is key v put.Gone = omega arith
  misses_put_is key v put.Late = omega arith

  misses_store_is : (v : Value) (c : Bool) → IsMissed (misses_store c t store v)
  misses_store_is v true = omega arith
  misses_store_is v false = named_length (next_write_name t) t.cursor v store

  misses_logged_is : (v : Value) (c : Bool) → IsMissed (cond c (nothing_missed store) (misses_store (ltb t.cursor store.floor) t store v))
  misses_logged_is v true = omega arith
  misses_logged_is v false = misses_store_is v (ltb t.cursor store.floor)

  misses_write_is : (key : List ℕ) (v : Value) (mode : Mode) (late : Bool) → IsMissed (misses_write setup t store key v mode late)
  misses_write_is key v W false = misses_put_is key v (put_at key t.cursor (suc t.free_writes) store)
  misses_write_is key v W true = misses_logged_is v (is_inline setup t v || t.stored)
  misses_write_is key v R late = misses_logged_is v (is_inline setup t v || t.stored)
  misses_write_is key v T late = misses_logged_is v (is_inline setup t v || t.stored)

  misses_op_is : (op : Op) → IsMissed (misses_asked setup t store (Some (k.Op op)))
  misses_op_is (o.Write key v) = misses_write_is key v t.mode t.late
  misses_op_is _ = omega arith

  misses_asked_is : (ask : Option Ask) → IsMissed (misses_asked setup t store ask)
  misses_asked_is None = omega arith
  misses_asked_is (Some (k.Done outcome)) = omega arith
  misses_asked_is (Some (k.Op op)) = misses_op_is op

  misses_at_is : (ask : Option Ask) (x : Option (Live Body)) → IsMissed (misses_at setup t store ask x)
  misses_at_is ask (Some x) = misses_record_is x.seq x.holds
  misses_at_is ask None = by t.waiting
    where
      by : (c : Bool) → IsMissed (cond c (nothing_missed store) (misses_asked setup t store ask))
      by true = omega arith
      by false = misses_asked_is ask

  misses_placed_is : (place : ℕ) → IsMissed (misses_placed setup fs t store seen place)
  misses_placed_is zero = omega arith
  misses_placed_is (suc place) = misses_at_is (attempt_ask fs t) (answers_to t (attempt_ask fs t) (nth (step_tag t.path) t.place seen))

  misses_with_is : (r : Option Outcome) (call : Option Call) → IsMissed (misses_with setup fs t store seen r call)
  misses_with_is None None = omega arith
  misses_with_is None (Some call) = misses_placed_is t.place
  misses_with_is (Some outcome) call = omega arith

  misses_if_is : (life : Life) → IsMissed (misses_if setup fs t store seen life)
  misses_if_is Running = misses_with_is (result_of t.path seen) (call_of t.path seen)
  misses_if_is Over = omega arith
  misses_if_is Stopped = omega arith
  misses_if_is Killed = omega arith

  miss_is : IsMissed (miss setup fs store seen t)
  miss_is = misses_if_is t.life

-- Attempts, one by one.

abbrev Few : ℕ → Attempt → Type 0
Few n a = suc (length a.answers) ≤ n

abbrev AllFew : ℕ → List NumberedAttempt → Type 0
AllFew n xs = AllByRecursion (λ x. Few n x.attempt) xs

abbrev SomeFew : ℕ → Option Attempt → Type 0
SomeFew n None = Unit {0}
SomeFew n (Some a) = Few n a

found_few : (n k : ℕ) (xs : List NumberedAttempt) → AllFew n xs → SomeFew n (attempt_at k xs)
found_few n k [] all = tt
found_few n k (x ∷ xs) all = by (eqb k x.number) (found_few n k xs all.1)
  where
    by : (c : Bool) → SomeFew n (attempt_at k xs) → SomeFew n (cond c (Some x.attempt) (attempt_at k xs))
    by true rest = all.0
    by false rest = rest

set_few : (n k : ℕ) (a : Attempt) (xs : List NumberedAttempt) → Few n a → AllFew n xs → AllFew n (set_attempt k a xs)
set_few n k a [] one all = tt
set_few n k a (x ∷ xs) one all = by (eqb k x.number) (set_few n k a xs one all.1)
  where
    by : (c : Bool) → AllFew n (set_attempt k a xs) → AllFew n (cond c (record { number = k; attempt = a } ∷ xs) (x ∷ set_attempt k a xs))
    by true rest = (one, all.1)
    by false rest = (all.0, rest)

killed_few : (n : ℕ) (a : Attempt) → Few n a → Few n (after_kill a)
killed_few n a few = by (is_running a.life)
  where
    by : (c : Bool) → Few n (cond c (record a { life = Killed }) a)
    by true = few
    by false = few

lost_few : (n : ℕ) (a : Attempt) → Few n a → Few n (after_lose a)
lost_few n a few = by (can_lose a)
  where
    by : (c : Bool) → Few n (cond c (record a { waiting = false }) a)
    by true = few
    by false = few

kill_few : (n engine : ℕ) (xs : List NumberedAttempt) → AllFew n xs → AllFew n (kill_on engine xs)
kill_few n engine [] all = tt
kill_few n engine (x ∷ xs) all = (by (runs_on engine x.attempt), kill_few n engine xs all.1)
  where
    by : (c : Bool) → Few n (cond c (record x { attempt = after_kill x.attempt }) x).attempt
    by true = killed_few n x.attempt all.0
    by false = all.0

-- Events. This is so behind n of them:

record IsCounted (n : ℕ) (m : Machine) : Type 0 where
  sent : AllByRecursion (Indexed n) (all_records m.shards)
  attempts : AllFew n m.attempts
  versions : length m.store.versions ≤ n - 1

within_more : (n : ℕ) (s : Option (List ℕ × ℕ)) → IsWithin n s → IsWithin (suc n) s
within_more n None is = tt
within_more n (Some s) is = let few = is.1 in (is.0, omega (arith, few))

module _ (setup : Setup) (fs : List Function) (n : ℕ) (m : Machine) (is : IsCounted n m) where
  later : IsCounted (suc n) m
  later = record {
    sent = each_weaker (Indexed n) (Indexed (suc n)) (λ r within. within_more n (step_of r.holds) within) (all_records m.shards) is.sent;
    attempts = each_weaker (λ x. Few n x.attempt) (λ x. Few (suc n) x.attempt) (λ x few. omega (arith, few)) m.attempts is.attempts;
    versions = (let few = is.versions in omega (arith, few));
  }

  with_attempts : (xs : List NumberedAttempt) → AllFew (suc n) xs → IsCounted (suc n) (record m { attempts = xs })
  with_attempts xs all = record { sent = later.sent; attempts = all; versions = later.versions }

  one_sent : (shard : ℕ) (r : LogRecord Body) → Indexed (suc n) r → IsCounted (suc n) (append_to shard r m)
  one_sent shard r one = record { sent = each_add (Indexed (suc n)) (shard - 1) r m.shards one later.sent; attempts = later.attempts; versions = later.versions }

  moved_is : (k engine : ℕ) (a : Attempt) (move : Move) → Few n a → IsMove (suc (length a.answers)) (length m.store.versions) move → IsCounted (suc n) (apply_move setup m k engine move).machine
  moved_is k engine a move few one = by move.sends one.sent
    where
      attempt : Few (suc n) move.attempt
      attempt = let most = one.answers in omega (arith, most, few)

      versions : length move.store.versions ≤ suc n - 1
      versions = let most = one.versions_are in let before = is.versions in omega (arith, most, before, few)

      wider : (s : Option (List ℕ × ℕ)) → IsWithin (suc (length a.answers)) s → IsWithin (suc n) s
      wider None within = tt
      wider (Some s) within = let most = within.1 in (within.0, omega (arith, most, few))

      by : (r : Option (LogRecord Body)) → SomeIndexed (suc (length a.answers)) r → IsCounted (suc n) (append_sent setup engine r (with_attempt k move.attempt (record m { store = move.store })))
      by None within = record { sent = later.sent; attempts = set_few (suc n) k move.attempt m.attempts attempt later.attempts; versions = versions }
      by (Some r) within = record {
        sent = each_add (Indexed (suc n)) (home_shard setup engine - 1) r m.shards (wider (step_of r.holds) within) later.sent;
        attempts = set_few (suc n) k move.attempt m.attempts attempt later.attempts;
        versions = versions;
      }

  steps_is : (k : ℕ) (a : Option Attempt) → SomeFew n a → IsCounted (suc n) (step_attempt setup fs m k a).machine
  steps_is k None few = later
  steps_is k (Some a) few =
      let at = next_sent setup m a.engine in
      moved_is k a.engine a (step setup fs m.store (view m a.engine) at a) few (step_is setup fs a m.store (view m a.engine) at)

  misses_is : (a : Option Attempt) → SomeFew n a → IsCounted (suc n) (miss_attempt setup fs m a).machine
  misses_is None few = later
  misses_is (Some a) few = record {
    sent = later.sent;
    attempts = later.attempts;
    versions = (let most = miss_is setup fs a m.store (view m a.engine) (next_sent setup m a.engine) in let before = is.versions in omega (arith, most, before, few));
  }

  starts_is : (k : ℕ) (path : List ℕ) (engine : ℕ) (a : Option Attempt) → IsCounted (suc n) (start_attempt m k path engine a).machine
  starts_is k path engine None = record { sent = later.sent; attempts = (omega arith, later.attempts); versions = later.versions }
  starts_is k path engine (Some a) = later

  kills_is : (k : ℕ) (a : Option Attempt) → SomeFew n a → IsCounted (suc n) (kill_attempt m k a).machine
  kills_is k None few = later
  kills_is k (Some a) few = with_attempts (set_attempt k (after_kill a) m.attempts) (set_few (suc n) k (after_kill a) m.attempts (killed_few (suc n) a (omega (arith, few))) later.attempts)

  loses_is : (k : ℕ) (a : Option Attempt) → SomeFew n a → IsCounted (suc n) (lose_record m k a).machine
  loses_is k None few = later
  loses_is k (Some a) few = with_attempts (set_attempt k (after_lose a) m.attempts) (set_few (suc n) k (after_lose a) m.attempts (lost_few (suc n) a (omega (arith, few))) later.attempts)

  cut_is : IsCounted (suc n) (cut m)
  cut_is = by (cuts_nothing m)
    where
      by : (c : Bool) → IsCounted (suc n) (cond c m (record m { vectors = progress m.shards m.counts ∷ m.vectors }))
      by true = later
      by false = record { sent = later.sent; attempts = later.attempts; versions = later.versions }

  end_is : (engine : ℕ) (path : Option (List ℕ)) → IsCounted (suc n) (end_if_all_ended setup m engine path).machine
  end_is engine None = one_sent (home_shard setup engine) (unconditional_record b.SwitchEnd) tt
  end_is engine (Some path) = later

  end_switch_is : (engine : ℕ) (seen : List (Live Body)) (s : Option Switch) → IsCounted (suc n) (send_switch_end setup m engine seen s).machine
  end_switch_is engine seen None = later
  end_switch_is engine seen (Some s) = end_is engine (least_open s.begun seen)

  sets_is : (engine seq : ℕ) (text : List ℕ) → IsCounted (suc n) (set_aux m engine seq text).machine
  sets_is engine seq text = by (leb 1 seq && leb seq (position m engine))
    where
      by : (c : Bool) → IsCounted (suc n) (cond c (event_result (with_aux m engine seq text) l.Set) (event_result m l.Absent)).machine
      by true = record { sent = later.sent; attempts = later.attempts; versions = later.versions }
      by false = later

  gets_is : (engine seq : ℕ) (o : Option (List ℕ)) → IsCounted (suc n) (get_aux m engine seq o).machine
  gets_is engine seq None = later
  gets_is engine seq (Some text) = record { sent = later.sent; attempts = later.attempts; versions = later.versions }

  happens_is : (event : Event) → IsCounted (suc n) (apply_event setup fs m event).machine
  happens_is (v.Submit engine request f args) = one_sent (home_shard setup engine) (submit_record (request ∷ []) (function_name f fs) args) tt
  happens_is (v.Copy shard replica k) = record { sent = later.sent; attempts = later.attempts; versions = later.versions }
  happens_is v.Cut = cut_is
  happens_is (v.Catch engine) = record { sent = later.sent; attempts = later.attempts; versions = later.versions }
  happens_is v.Sync = record { sent = cut_is.sent; attempts = cut_is.attempts; versions = cut_is.versions }
  happens_is (v.Restart engine) = record { sent = later.sent; attempts = kill_few (suc n) engine m.attempts later.attempts; versions = later.versions }
  happens_is (v.Start k path engine) = starts_is k path engine (attempt_at k m.attempts)
  happens_is (v.Step k) = steps_is k (attempt_at k m.attempts) (found_few n k m.attempts is.attempts)
  happens_is (v.Kill k) = kills_is k (attempt_at k m.attempts) (found_few n k m.attempts is.attempts)
  happens_is (v.Lose k) = loses_is k (attempt_at k m.attempts) (found_few n k m.attempts is.attempts)
  happens_is (v.Miss k) = misses_is (attempt_at k m.attempts) (found_few n k m.attempts is.attempts)
  happens_is (v.Switch engine target) = one_sent (home_shard setup engine) (unconditional_record (b.SwitchBegin target)) tt
  happens_is (v.EndSwitch engine) = end_switch_is engine (view m engine) (modes setup.mode (view m engine)).pending
  happens_is (v.Trim engine) = one_sent (home_shard setup engine) (unconditional_record (b.Trim (trim_limit (position m engine) (view m engine)))) tt
  happens_is (v.Sweep engine) = record { sent = later.sent; attempts = later.attempts; versions = later.versions }
  happens_is (v.Append engine tags text) = one_sent (home_shard setup engine) (log_record tags None (b.User text)) tt
  happens_is (v.Cond engine place tags text) = one_sent (home_shard setup engine) (log_record tags (Some (record { tag = first_tag tags; place = place })) (b.User text)) tt
  happens_is (v.TrimTag engine tag upto) = one_sent (home_shard setup engine) (unconditional_record (b.TrimTag tag.0 upto.0)) tt
  happens_is (v.SetAux engine seq text) = sets_is engine seq.0 text
  happens_is (v.GetAux engine seq) = gets_is engine seq.0 (aux_at seq.0 (aux_of m engine))
  happens_is _ = later

run_is : (setup : Setup) (fs : List Function) (events : List Event) (n : ℕ) (m : Machine) → IsCounted n m → IsCounted (n + length events) (apply_events setup fs events m).machine
run_is setup fs [] n m is = let same : n ≡ n + 0 = omega arith in subst (λ k. IsCounted k m) same is
run_is setup fs (e ∷ es) n m is =
    let same : suc n + length es ≡ n + suc (length es) = omega arith in
    subst (λ k. IsCounted k (apply_events setup fs es (apply_event setup fs m e).machine).machine) same (run_is setup fs es (suc n) (apply_event setup fs m e).machine (happens_is setup fs n m is e))

none_sent : (n : ℕ) → AllByRecursion (Indexed 0) (all_records (replicate n []))
none_sent zero = tt
none_sent (suc n) = none_sent n

-- Turns.

Ahead : ℕ → List (List ℕ × ℕ) → Type 0
Ahead n ahead = (p : List ℕ) (i : ℕ) → get p ahead ≡ Some i → i ≤ n

put_ahead : (n : ℕ) (p : List ℕ) (i : ℕ) (ahead : List (List ℕ × ℕ)) → i ≤ n → Ahead n ahead → Ahead n (put_in p i ahead)
unfolding Ahead
put_ahead n p i ahead few all q k is = by (bytes_eq q p) (sym (get-put q p i ahead) ∙ is)
  where
    by : (c : Bool) → cond c (Some i) (get q ahead) ≡ Some k → k ≤ n
    by true e = let same : i ≡ k = cc in omega (arith, same, few)
    by false e = all q k e

ahead_more : (n : ℕ) (s : Option (List ℕ × ℕ)) (ahead : List (List ℕ × ℕ)) → IsWithin n s → Ahead n ahead → Ahead n (add_next_index s ahead)
ahead_more n None ahead within all = all
ahead_more n (Some s) ahead within all = put_ahead n s.0 s.1 ahead within.1 all

until_few : (n index own free : ℕ) (next : Option ℕ) → own ≤ 1 → free ≤ n - 1 → 1 ≤ n → ((i : ℕ) → next ≡ Some i → i ≤ n) → operation_count next index own free ≤ n
until_few n index own free None one few some all = omega (arith, one, few, some)
until_few n index own free (Some next) one few some all = let most = all next refl in omega (arith, most)

step_few : (n : ℕ) (ahead : List (List ℕ × ℕ)) (free : ℕ) (s : Option (List ℕ × ℕ)) → free ≤ n - 1 → IsWithin n s → Ahead n ahead → HaveAtMost n (operation_turn ahead free s)
unfolding Ahead
step_few n ahead free None few within all = tt
step_few n ahead free (Some s) few within all =
    (until_few n s.1 1 free (get s.0 ahead) (omega arith) few (let low = within.0 in let high = within.1 in omega (arith, low, high)) (λ i is. all s.0 i is), tt)

body_few : (fs : List Function) (n : ℕ) (ahead : List (List ℕ × ℕ)) (free : ℕ) (body : Body) → free ≤ n - 1 → IsWithin n (step_of body) → Ahead n ahead → HaveAtMost n (turn_of fs ahead free body)
unfolding Ahead
body_few fs n ahead free (b.Submit p f args) few within all = (tt, tt)
body_few fs n ahead free (b.Init p) few within all =
    (until_few n 1 0 free (get p ahead) (omega arith) few (let high = within.1 in omega (arith, high)) (λ i is. all p i is), tt)
body_few fs n ahead free (b.Finish p i outcome) few within all = (tt, tt)
body_few fs n ahead free (b.Read p i key) few within all = step_few n ahead free (Some (p, i)) few within all
body_few fs n ahead free (b.Write p i place key value) few within all = step_few n ahead free (Some (p, i)) few within all
body_few fs n ahead free (b.Spawn p i ordinal f args) few within all = step_few n ahead free (Some (p, i)) few within all
body_few fs n ahead free (b.Join p i ordinal) few within all = step_few n ahead free (Some (p, i)) few within all
body_few fs n ahead free (b.Push p i queue value) few within all = step_few n ahead free (Some (p, i)) few within all
body_few fs n ahead free (b.Pop p i queue) few within all = step_few n ahead free (Some (p, i)) few within all
body_few fs n ahead free (b.TxnBegin p i names) few within all = step_few n ahead free (Some (p, i)) few within all
body_few fs n ahead free (b.TxnCommit p i begin names writes) few within all = step_few n ahead free (Some (p, i)) few within all
body_few fs n ahead free (b.ReadGroup p i keys) few within all = step_few n ahead free (Some (p, i)) few within all
body_few fs n ahead free (b.SwitchBegin target) few within all = tt
body_few fs n ahead free b.SwitchEnd few within all = tt
body_few fs n ahead free (b.Trim w) few within all = tt
body_few fs n ahead free (b.TrimTag number upto) few within all = tt
body_few fs n ahead free (b.User bytes) few within all = tt

at_most_all : (c : ℕ) (vs : List Version) → versions_at c vs ≤ length vs
at_most_all c [] = omega arith
at_most_all c (v ∷ vs) = by (eqb c v.cursor) (at_most_all c vs)
  where
    by : (t : Bool) → length (filter (λ (v : Version). eqb c v.cursor) vs) ≤ length vs → length (cond t (v ∷ filter (λ (v : Version). eqb c v.cursor) vs) (filter (λ (v : Version). eqb c v.cursor) vs)) ≤ suc (length vs)
    by true few = omega (arith, few)
    by false few = omega (arith, few)

turns_few : (fs : List Function) (n : ℕ) (versions : List Version) (ahead : List (List ℕ × ℕ)) (xs : List (Live Body)) → length versions ≤ n - 1 → Ahead n ahead → AllByRecursion (λ x. IsWithin n (step_of x.holds)) xs → HaveAtMost n (turns_to fs ahead versions xs)
turns_few fs n versions ahead [] few all within = tt
turns_few fs n versions ahead (x ∷ xs) few all within =
    each_append (HasAtMost n) (turns_to fs (add_next_index (step_of x.holds) ahead) versions xs) (turn_of fs ahead (versions_at x.seq versions) x.holds)
    (turns_few fs n versions (add_next_index (step_of x.holds) ahead) xs few (ahead_more n (step_of x.holds) ahead within.0 all) within.1)
    (body_few fs n ahead (versions_at x.seq versions) x.holds (let most = at_most_all x.seq versions in omega (arith, most, few)) within.0 all)

none_ahead : (n : ℕ) → Ahead n []
unfolding Ahead
none_ahead n p i is = cc

live_within : (n : ℕ) (sent log : List (LogRecord Body)) → AllByRecursion (λ r. IsAmong r sent) log → AllByRecursion (Indexed n) sent → AllByRecursion (λ x. IsWithin n (step_of x.holds)) (live log)
live_within n sent [] ordered all = tt
live_within n sent (r ∷ log) ordered all = at (meets_condition r.condition (live log)) (live_within n sent log ordered.1 all)
  where
    at : (t : Bool) → AllByRecursion (λ x. IsWithin n (step_of x.holds)) (live log) → AllByRecursion (λ x. IsWithin n (step_of x.holds)) (cond t (record { seq = suc (length log); tags = r.tags; holds = r.holds } ∷ live log) (live log))
    at true rest = (among_each (Indexed n) r sent ordered.0 all, rest)
    at false rest = rest

pub counts_are_few : CountsAreFew
counts_are_few setup fs objects es all =
    let m : Machine = (apply_events setup fs es (initial_machine setup objects)).machine in
    let n : ℕ = length es in
    let holds : MachineHolds setup fs m = run_holds setup fs (events_keep (moves_keep versions_keep) (misses_keep versions_keep)) es (initial_machine setup objects) all (opens setup fs objects) in
    let counted : IsCounted (0 + n) m = run_is setup fs es 0 (initial_machine setup objects) (record { sent = none_sent setup.shards; attempts = tt; versions = omega arith }) in
    let same : 0 + n ≡ n = omega arith in
    let is : IsCounted n m = subst (λ k. IsCounted k m) same counted in
    turns_few fs n m.store.versions [] (live_records m) is.versions (none_ahead n) (live_within n (all_records m.shards) (log m) holds.holds.ordered is.sent)
