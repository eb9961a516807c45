-- What is ever sent: a step sends a step record, and other events send what they say themselves. So what holds of these records
-- holds of all.
use Rattle.std.proofs.Common.{◌≡◌, ℕ, zero, suc, ◌-◌, Bool, true, false, cond, leb, ltb, ◌&&◌, List, [], ◌∷◌, Option, Some, None, refl, sym, subst}
use Rattle.std.specs.Prelude.{is_some, IfSome}
use Rattle.std.specs.List.{AllByRecursion}
use Rattle.lb_base.specs.declared.value.Value.{Value}
use Rattle.lb_base.specs.declared.value.Mode.{Mode}
use Rattle.lb_base.specs.declared.value.Mode.TheVariants.{R, W, T}
use Rattle.lb_base.specs.declared.value.Outcome.{Outcome}
use Rattle.boki_types.specs.declared.body.Body.{Body}
use Rattle.boki_types.specs.declared.body.Body.TheVariants as b
use Rattle.boki_types.specs.declared.event.Event.{Event}
use Rattle.boki_types.specs.declared.event.Event.TheVariants as v
use Rattle.boki_types.specs.declared.line.Line.TheVariants as l
use Rattle.boki_types.specs.declared.line.Life.{Life}
use Rattle.boki_types.specs.declared.line.Life.TheVariants.{Running, Over, Stopped, Killed}
use Rattle.boki_types.specs.declared.line.StepLine.{StepLine}
use Rattle.boki_types.specs.declared.log.Call.{Call}
use Rattle.boki_types.specs.declared.log.Sent.{Sent}
use Rattle.boki_types.specs.declared.operation.Op.{Op}
use Rattle.boki_types.specs.declared.operation.Op.TheVariants as o
use Rattle.boki_types.specs.declared.operation.Ask.{Ask}
use Rattle.boki_types.specs.declared.operation.Ask.TheVariants as k
use Rattle.boki_types.specs.declared.operation.Answer.{Answer}
use Rattle.boki_types.specs.declared.plan.Setup.{Setup}
use Rattle.boki_types.specs.declared.program.Function.{Function}
use Rattle.boki_types.specs.declared.store.Put.{Put}
use Rattle.boki_types.specs.declared.store.Put.TheVariants as put
use Rattle.boki_model.specs.Live.{LogRecord, Live}
use Rattle.boki_model.specs.Reads.{nth}
use Rattle.boki_model.specs.Bodies.{step_tag, step_of, child}
use Rattle.boki_model.specs.Modes.{Switch, least_open, modes, result_of}
use Rattle.boki_model.specs.Floor.{trim_limit}
use Rattle.boki_model.specs.Order.{progress}
use Rattle.boki_model.specs.Writes.{Store, put_at, after_read_fenced}
use Rattle.boki_machine.specs.Attempt.{Attempt, Move, next_index, call_of}
use Rattle.boki_machine.specs.Step.{function_name, has_index, stop_gone, adopts_answer, adopts_marker, adopts_join, adopts_operation, reads, reads_group, logged_write_step, is_inline, free_write_step, writes, join_step, operation_step, unless_waiting, script_step, answers_to, adopt_or, init_step, attempt_ask, step_at_place, step_when_called, step_if_running, step}
use Rattle.boki_machine.specs.Machine.{Machine, view, position, event_result, home_shard, next_sent, append_to, log_record, unconditional_record, submit_record, first_tag, cut, cuts_nothing, attempt_at, with_attempt, start_attempt, append_sent, step_attempt, kill_attempt, lose_record, miss_attempt, end_if_all_ended, send_switch_end, with_aux, get_aux, aux_at, aux_of, apply_event}
use Rattle.exactly_once.specs.FurtherLaws.Words.{all_records}
use Rattle.exactly_once.proofs.Machines.ShardsAndVectors.{each_add}

-- nothing, or a step record
abbrev pub SendsStep : Option (LogRecord Body) → Type 0
SendsStep None = Unit {0}
SendsStep (Some r) = is_some (step_of r.holds) ≡ true

-- Case by case, as the step table goes.

module _ (setup : Setup) (fs : List Function) (t : Attempt) (store : Store) (seen : List (Live Body)) (at : Sent) where
  abbrev Sends : Move → Type 0
  Sends move = SendsStep move.sends

  on_test : (b : Bool) (one other : Move) → Sends one → Sends other → Sends (cond b one other)
  on_test true one other is not_it = is
  on_test false one other is not_it = not_it

  marker_sends : (seq : ℕ) (keys : List (List ℕ)) (answer : Answer) (line : StepLine) → Sends (adopts_marker t store seq keys answer line)
  marker_sends seq keys answer line = on_test (ltb seq store.floor) (stop_gone t store) (adopts_answer t (after_read_fenced keys seq store) seq answer line) tt tt

  join_sends : (seq : ℕ) (p : List ℕ) (r : Option Outcome) → Sends (adopts_join t store seq p r)
  join_sends seq p None = tt
  join_sends seq p (Some outcome) = tt

  record_sends : (seq : ℕ) (body : Body) (other : Move) → Sends other → Sends (adopts_operation t store seen seq body other)
  record_sends seq (b.Read p i key) other is = marker_sends seq (key ∷ []) _ _
  record_sends seq (b.ReadGroup p i keys) other is = marker_sends seq keys _ _
  record_sends seq (b.Write p i place key value) other is = tt
  record_sends seq (b.Spawn p i ordinal f args) other is = tt
  record_sends seq (b.Join p i ordinal) other is = join_sends seq (child p ordinal) (result_of (child p ordinal) seen)
  record_sends seq (b.Push p i queue value) other is = tt
  record_sends seq (b.Pop p i queue) other is = tt
  record_sends seq (b.TxnBegin p i names) other is = tt
  record_sends seq (b.TxnCommit p i begin names writes) other is = tt
  record_sends seq _ other is = is

  reads_sends : (key : List ℕ) (mode : Mode) → Sends (reads t store seen at key mode)
  reads_sends key R = on_test (ltb t.cursor store.floor) _ _ tt tt
  reads_sends key W = refl
  reads_sends key T = refl

  group_sends : (keys : List (List ℕ)) (mode : Mode) → Sends (reads_group t store seen at keys mode)
  group_sends keys R = on_test (ltb t.cursor store.floor) _ _ tt tt
  group_sends keys W = refl
  group_sends keys T = refl

  logs_sends : (key : List ℕ) (v : Value) (inlined stored : Bool) → Sends (logged_write_step inlined stored t store at key v)
  logs_sends key v true stored = refl
  logs_sends key v false true = refl
  logs_sends key v false false = on_test (ltb t.cursor store.floor) _ _ tt tt

  puts_sends : (key : List ℕ) (v : Value) (p : Put) → Sends (free_write_step p t store key v)
  puts_sends key v put.Gone = tt
  puts_sends key v put.Late = tt
  puts_sends key v put.Done = tt

  writes_sends : (key : List ℕ) (v : Value) (mode : Mode) (late : Bool) → Sends (writes setup t store at key v mode late)
  writes_sends key v W false = puts_sends key v (put_at key t.cursor (suc t.free_writes) store)
  writes_sends key v W true = logs_sends key v (is_inline setup t v) t.stored
  writes_sends key v R late = logs_sends key v (is_inline setup t v) t.stored
  writes_sends key v T late = logs_sends key v (is_inline setup t v) t.stored

  joins_sends : (ordinal : ℕ) (r : Option Outcome) → Sends (join_step t store at ordinal r)
  joins_sends ordinal None = tt
  joins_sends ordinal (Some outcome) = refl

  operates_sends : (op : Op) → Sends (operation_step setup fs t store seen at op)
  operates_sends (o.Read key) = reads_sends key t.mode
  operates_sends (o.ReadGroup keys) = group_sends keys t.mode
  operates_sends (o.Write key v) = writes_sends key v t.mode t.late
  operates_sends (o.Spawn ordinal f args) = refl
  operates_sends (o.Join ordinal) = joins_sends ordinal (result_of (child t.path ordinal) seen)
  operates_sends (o.Push queue v) = refl
  operates_sends (o.Pop queue) = refl
  operates_sends (o.Begin names) = refl
  operates_sends (o.Commit names ws) = refl

  asks_sends : (ask : Option Ask) → Sends (script_step setup fs t store seen at ask)
  asks_sends None = tt
  asks_sends (Some (k.Done outcome)) = refl
  asks_sends (Some (k.Op op)) = operates_sends op

  waits_sends : (waiting : Bool) (other : Move) → Sends other → Sends (unless_waiting waiting t store other)
  waits_sends true other is = tt
  waits_sends false other is = is

  takes_sends : (ask : Option Ask) (x : Option (Live Body)) (other : Move) → Sends other → Sends (adopt_or t store seen (answers_to t ask x) other)
  takes_sends (Some (k.Op op)) (Some x) other is = by_index (has_index (next_index t.answers) (step_of x.holds))
    where
      by_index : (u : Bool) → Sends (adopt_or t store seen (cond u (Some x) None) other)
      by_index true = record_sends x.seq x.holds other is
      by_index false = is
  takes_sends (Some (k.Op op)) None other is = is
  takes_sends (Some (k.Done outcome)) x other is = is
  takes_sends None x other is = is

  begins_sends : (call : Call) (x : Option (Live Body)) → Sends (init_step setup fs t store seen at call x)
  begins_sends call (Some x) = tt
  begins_sends call None = waits_sends t.waiting _ refl

  placed_sends : (call : Call) (place : ℕ) → Sends (step_at_place setup fs t store seen at call place)
  placed_sends call zero = begins_sends call (nth (step_tag t.path) 0 seen)
  placed_sends call (suc place) =
      takes_sends (attempt_ask fs t) (nth (step_tag t.path) t.place seen) _
      (waits_sends t.waiting (script_step setup fs t store seen at (attempt_ask fs t)) (asks_sends (attempt_ask fs t)))

  call_sends : (r : Option Outcome) (call : Option Call) → Sends (step_when_called setup fs t store seen at r call)
  call_sends (Some outcome) call = tt
  call_sends None None = tt
  call_sends None (Some call) = placed_sends call t.place

  running_sends : (life : Life) → Sends (step_if_running setup fs t store seen at life)
  running_sends Running = call_sends (result_of t.path seen) (call_of t.path seen)
  running_sends Over = tt
  running_sends Stopped = tt
  running_sends Killed = tt

  pub step_sends : Sends (step setup fs store seen at t)
  step_sends = running_sends t.life

-- Events.

-- what an event sends that is no step; an EndSwitch sends it, or nothing
abbrev pub own_record : Setup → List Function → Machine → Event → Option (LogRecord Body)
own_record setup fs m (v.Submit engine request f args) = Some (submit_record (request ∷ []) (function_name f fs) args)
own_record setup fs m (v.Switch engine target) = Some (unconditional_record (b.SwitchBegin target))
own_record setup fs m (v.EndSwitch engine) = Some (unconditional_record b.SwitchEnd)
own_record setup fs m (v.Trim engine) = Some (unconditional_record (b.Trim (trim_limit (position m engine) (view m engine))))
own_record setup fs m (v.Append engine tags text) = Some (log_record tags None (b.User text))
own_record setup fs m (v.Cond engine place tags text) = Some (log_record tags (Some (record { tag = first_tag tags; place = place })) (b.User text))
own_record setup fs m (v.TrimTag engine tag upto) = Some (unconditional_record (b.TrimTag tag.0 upto.0))
own_record setup fs m _ = None

module _ (P : LogRecord Body → Type 0) (of_steps : (r : LogRecord Body) → is_some (step_of r.holds) ≡ true → P r) where
  -- what was ever sent
  abbrev pub AllSent : Machine → Type 0
  AllSent m = AllByRecursion P (all_records m.shards)

  module _ (setup : Setup) (fs : List Function) (m : Machine) (all : AllSent m) where
    added : (shard : ℕ) (r : LogRecord Body) → P r → AllSent (append_to shard r m)
    added shard r one = each_add P (shard - 1) r m.shards one all

    cut_stays : AllSent (cut m)
    cut_stays = at (cuts_nothing m)
      where
        at : (t : Bool) → AllSent (cond t m (record m { vectors = progress m.shards m.counts ∷ m.vectors }))
        at true = all
        at false = all

    moved : (engine : ℕ) (r : Option (LogRecord Body)) (n : Machine) → n.shards ≡ m.shards → SendsStep r → AllSent (append_sent setup engine r n)
    moved engine None n same sends = subst (λ shards. AllByRecursion P (all_records shards)) (sym same) all
    moved engine (Some r) n same sends =
        each_add P (home_shard setup engine - 1) r n.shards (of_steps r sends) (subst (λ shards. AllByRecursion P (all_records shards)) (sym same) all)

    stepped : (n : ℕ) (a : Option Attempt) → AllSent (step_attempt setup fs m n a).machine
    stepped n None = all
    stepped n (Some a) =
        let at = next_sent setup m a.engine in
        let move = step setup fs m.store (view m a.engine) at a in
        moved a.engine move.sends (with_attempt n move.attempt (record m { store = move.store })) refl (step_sends setup fs a m.store (view m a.engine) at)

    missed : (a : Option Attempt) → AllSent (miss_attempt setup fs m a).machine
    missed None = all
    missed (Some a) = all

    started : (n : ℕ) (path : List ℕ) (engine : ℕ) (a : Option Attempt) → AllSent (start_attempt m n path engine a).machine
    started n path engine None = all
    started n path engine (Some a) = all

    killed : (n : ℕ) (a : Option Attempt) → AllSent (kill_attempt m n a).machine
    killed n None = all
    killed n (Some a) = all

    lost : (n : ℕ) (a : Option Attempt) → AllSent (lose_record m n a).machine
    lost n None = all
    lost n (Some a) = all

    ends : P (unconditional_record b.SwitchEnd) → (engine : ℕ) (path : Option (List ℕ)) → AllSent (end_if_all_ended setup m engine path).machine
    ends one engine None = added (home_shard setup engine) (unconditional_record b.SwitchEnd) one
    ends one engine (Some path) = all

    ends_switch : P (unconditional_record b.SwitchEnd) → (engine : ℕ) (seen : List (Live Body)) (s : Option Switch) → AllSent (send_switch_end setup m engine seen s).machine
    ends_switch one engine seen None = all
    ends_switch one engine seen (Some s) = ends one engine (least_open s.begun seen)

    sets : (engine seq : ℕ) (text : List ℕ) (t : Bool) → AllSent (cond t (event_result (with_aux m engine seq text) l.Set) (event_result m l.Absent)).machine
    sets engine seq text true = all
    sets engine seq text false = all

    gets : (engine seq : ℕ) (o : Option (List ℕ)) → AllSent (get_aux m engine seq o).machine
    gets engine seq None = all
    gets engine seq (Some text) = all

    -- what holds of each step record, and of what the event sends itself, is kept by it
    pub all_sent : (event : Event) → IfSome (own_record setup fs m event) P → AllSent (apply_event setup fs m event).machine
    all_sent (v.Submit engine request f args) one = added (home_shard setup engine) _ one
    all_sent v.Cut one = cut_stays
    all_sent v.Sync one = cut_stays
    all_sent (v.Start n path engine) one = started n path engine (attempt_at n m.attempts)
    all_sent (v.Step n) one = stepped n (attempt_at n m.attempts)
    all_sent (v.Kill n) one = killed n (attempt_at n m.attempts)
    all_sent (v.Lose n) one = lost n (attempt_at n m.attempts)
    all_sent (v.Miss n) one = missed (attempt_at n m.attempts)
    all_sent (v.Switch engine target) one = added (home_shard setup engine) _ one
    all_sent (v.EndSwitch engine) one = ends_switch one engine (view m engine) (modes setup.mode (view m engine)).pending
    all_sent (v.Trim engine) one = added (home_shard setup engine) _ one
    all_sent (v.Append engine tags text) one = added (home_shard setup engine) _ one
    all_sent (v.Cond engine place tags text) one = added (home_shard setup engine) _ one
    all_sent (v.TrimTag engine tag upto) one = added (home_shard setup engine) _ one
    all_sent (v.SetAux engine seq text) one = sets engine seq.0 text (leb 1 seq.0 && leb seq.0 (position m engine))
    all_sent (v.GetAux engine seq) one = gets engine seq.0 (aux_at seq.0 (aux_of m engine))
    all_sent _ one = all
