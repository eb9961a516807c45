-- What a step of an attempt does is in range: the attempt behind it, the record that it sends, and the store.
use Rattle.std.proofs.Common.{◌≡◌, ℕ, zero, suc, ◌≤◌, ◌-◌, ◌^◌, Bool, true, false, cond, leb, ltb, ◌&&◌, ◌||◌, List, [], ◌∷◌, length, Option, Some, None, refl, subst, arith}
use Rattle.std.specs.Prelude.{unwrap_or, is_some}
use Rattle.std.specs.List.{list_all}
use Rattle.std.proofs.lemmas.Bool.{and_parts, and_from, ltb-true, lt-ltb}
use Rattle.lb_base.specs.declared.value.Value.{Value}
use Rattle.lb_base.specs.declared.value.Mode.{Mode}
use Rattle.lb_base.specs.declared.value.Mode.TheVariants.{R, W, T}
use Rattle.lb_base.specs.declared.value.Outcome.{Outcome}
use Rattle.lb_base.specs.Path.{is_ordinal}
use Rattle.boki_types.specs.declared.body.Body.{Body}
use Rattle.boki_types.specs.declared.body.Body.TheVariants as b
use Rattle.boki_types.specs.declared.line.Life.{Life}
use Rattle.boki_types.specs.declared.line.Life.TheVariants.{Running, Over, Stopped, Killed}
use Rattle.boki_types.specs.declared.line.StepLine.{StepLine}
use Rattle.boki_types.specs.declared.line.StepLine.TheVariants as l
use Rattle.boki_types.specs.declared.line.Miss.TheVariants as m
use Rattle.boki_types.specs.declared.log.Call.{Call}
use Rattle.boki_types.specs.declared.log.Sent.{Sent}
use Rattle.boki_types.specs.declared.operation.Op.{Op}
use Rattle.boki_types.specs.declared.operation.Op.TheVariants as o
use Rattle.boki_types.specs.declared.operation.Ask.{Ask}
use Rattle.boki_types.specs.declared.operation.Ask.TheVariants as k
use Rattle.boki_types.specs.declared.operation.Answer.{Answer}
use Rattle.boki_types.specs.declared.operation.Answer.TheVariants as a
use Rattle.boki_types.specs.declared.plan.Setup.{Setup}
use Rattle.boki_types.specs.declared.program.Function.{Function}
use Rattle.boki_types.specs.declared.store.Name.{Name}
use Rattle.boki_types.specs.declared.store.Put.{Put}
use Rattle.boki_types.specs.declared.store.Put.TheVariants as put
use Rattle.boki_types.specs.Finding.{function_at}
use Rattle.boki_model.specs.Live.{Live}
use Rattle.boki_model.specs.Reads.{nth}
use Rattle.boki_model.specs.Bodies.{is_value, is_name, is_u64, is_step_id, is_outcome, is_optional_value, is_identifier, is_short_list, are_names, in_range, step_of, step_tag, child}
use Rattle.boki_model.specs.Modes.{result_of}
use Rattle.boki_model.specs.Plans.{has_arity}
use Rattle.boki_model.specs.Folds.{queues, front, commits, store_values, values_of_names}
use Rattle.boki_model.specs.Writes.{Store, read_free, read_fenced, raise_fences, after_read_fenced, put_at, puts_version, after_put, value_under_name, after_put_named}
use Rattle.boki_machine.specs.Attempt.{Attempt, Move, moves, sends_record, answered_with, next_index, call_of}
use Rattle.std.specs.Prelude.{zip}
use Rattle.boki_machine.specs.Step.{seqnum, records_below, stop_gone, fenced_value, read_all, adopts_answer, adopts_marker, adopts_join, is_committed, adopts_operation, is_inline, next_write_name, reads, reads_group, send_write, logged_write_step, free_write_step, writes, join_step, function_name, operation_step, unless_waiting, script_step, has_index, answers_to, adopt_or, init_step, attempt_ask, continue_step, step_at_place, step_when_called, step_if_running, step, nothing_missed, misses_marker, misses_record, misses_put, misses_store, misses_write, misses_asked, misses_at, misses_placed, misses_with, misses_if, miss}
use Rattle.script_ranges.specs.Asks.{AreFunctions, is_answer, is_op, is_ask}
use Rattle.script_ranges.specs.Ranged.{BodyInRange, StoreInRange, HasFunction, AttemptInRange}
use Rattle.script_ranges.proofs.Each.{SomeHas}
use Rattle.script_ranges.proofs.Evals.{IsVal}
use Rattle.script_ranges.specs.Sends.{body_of_ask}
use Rattle.script_ranges.proofs.Functions.{known_at}
use Rattle.script_ranges.proofs.Bodies.{asks_make_records}
use Rattle.script_ranges.proofs.Scripts.{ask_is}
use Rattle.script_ranges.proofs.Views.{IsSeen, Seen, nth_has, result_has, IsCall, call_of_has, front_val, begun_values, free_val, fenced_val, reads_are, upto_has}

-- The store.

pub fenced_store : (keys : List (List ℕ)) (at : ℕ) (store : Store) → StoreInRange store → StoreInRange (after_read_fenced keys at store)
fenced_store keys at store is = by (ltb at store.floor)
  where
    by : (t : Bool) → StoreInRange (cond t store (record store { fences = raise_fences keys at store.fences }))
    by true = is
    by false = record { initial = is.initial; named = is.named; versions = is.versions }

named_store : (name : Name) (cursor : ℕ) (value : Value) (store : Store) → IsVal value → StoreInRange store → StoreInRange (after_put_named name cursor value store)
named_store name cursor value store one is = by (ltb cursor store.floor) (is_some (value_under_name name store.named))
  where
    by : (t u : Bool) → StoreInRange (cond t store (record store { named = cond u store.named (record { name = name; value = value } ∷ store.named) }))
    by true u = is
    by false true = record { initial = is.initial; named = is.named; versions = is.versions }
    by false false = record { initial = is.initial; named = (one, is.named); versions = is.versions }

put_store : (key : List ℕ) (cursor n : ℕ) (value : Value) (store : Store) → IsVal value → StoreInRange store → StoreInRange (after_put key cursor n value store)
put_store key cursor n value store one is = by (puts_version key cursor n store)
  where
    by : (t : Bool) → StoreInRange (cond t (record store { versions = record { key = key; cursor = cursor; number = n; value = value } ∷ store.versions }) store)
    by true = record { initial = is.initial; named = is.named; versions = (one, is.versions) }
    by false = is

-- a step of an attempt with k answers: the attempt behind it, which has at most one more, the record and the store
pub record IsMove (fs : List Function) (k : ℕ) (m : Move) : Type 0 where
  pub attempt : AttemptInRange fs m.attempt
  pub few : length m.attempt.answers ≤ suc k
  pub sends : SomeHas (λ r. BodyInRange fs r.holds) m.sends
  pub store : StoreInRange m.store

module _ (fs : List Function) (are : AreFunctions fs) (n : ℕ) (words : is_u64 n ≡ true) where
  seq_word : (seq : ℕ) → seq ≤ n → is_u64 seq ≡ true
  seq_word seq le = let lt = ltb-true n (2 ^ 64) words in lt-ltb seq (2 ^ 64) (omega (arith, lt, le))

  module _ (setup : Setup) (t : Attempt) (store : Store) (view : List (Live Body)) (at : Sent) (index : is_u64 (next_index t.answers) ≡ true) (is : AttemptInRange fs t) (is_store : StoreInRange store) (seen : Seen fs n view) where
    stays : (line : StepLine) → IsMove fs (length t.answers) (moves t store line)
    stays line = record { attempt = is; few = omega arith; sends = tt; store = is_store }

    gone_is : IsMove fs (length t.answers) (stop_gone t store)
    gone_is = record { attempt = record { path = is.path; args = is.args; answers = is.answers; function = is.function; place = is.place; free_writes = is.free_writes; begun = is.begun }; few = omega arith; sends = tt; store = is_store }

    sends_is : (body : Body) (line : StepLine) → BodyInRange fs body → IsMove fs (length t.answers) (sends_record t store body line)
    sends_is body line one = record { attempt = record { path = is.path; args = is.args; answers = is.answers; function = is.function; place = is.place; free_writes = is.free_writes; begun = is.begun }; few = omega arith; sends = one; store = is_store }

    place_word : is_u64 t.place ≡ true
    place_word = let lt = ltb-true (next_index t.answers) (2 ^ 64) index in let le = is.place in lt-ltb t.place (2 ^ 64) (omega (arith, lt, le))

    body_is : (here : Option Value) (ask : Ask) → is_optional_value here ≡ true → is_ask fs (length t.path) ask ≡ true → BodyInRange fs (body_of_ask fs t.path (next_index t.answers) t.place here (unwrap_or t.transaction 0) ask)
    body_is here ask optional good = asks_make_records fs t.path (next_index t.answers) t.place here (unwrap_or t.transaction 0) ask are is.path (omega arith) index place_word optional is.begun good

    -- a free operation is answered
    free_is : (u : Attempt) (answer : Answer) → AttemptInRange fs u → is_answer answer ≡ true → AttemptInRange fs (answered_with u answer)
    free_is u answer one good = record { path = one.path; args = one.args; answers = and_from (is_answer answer) (list_all is_answer u.answers) good one.answers; function = one.function; place = (let le = one.place in omega (arith, le)); free_writes = (let le = one.free_writes in omega (arith, le)); begun = one.begun }

    -- Adopting.

    module _ (called : has_arity (length t.args) (function_at t.function fs) ≡ true) where
      adopted_is : (begun : Option ℕ) (new : Store) (seq : ℕ) (answer : Answer) (line : StepLine) → is_u64 (unwrap_or begun 0) ≡ true → StoreInRange new → is_answer answer ≡ true → IsMove fs (length t.answers) (adopts_answer (record t { transaction = begun }) new seq answer line)
      adopted_is begun new seq answer line word new_is good = record {
        attempt = record { path = is.path; args = is.args; answers = and_from (is_answer answer) (list_all is_answer t.answers) good is.answers; function = called; place = (let le = is.place in omega (arith, le)); free_writes = omega arith; begun = word };
        few = omega arith;
        sends = tt;
        store = new_is;
      }

      marker_is : (seq : ℕ) (keys : List (List ℕ)) (answer : Answer) (line : StepLine) → is_answer answer ≡ true → IsMove fs (length t.answers) (adopts_marker t store seq keys answer line)
      marker_is seq keys answer line good = by (ltb seq store.floor)
        where
          by : (b : Bool) → IsMove fs (length t.answers) (cond b (stop_gone t store) (adopts_answer t (after_read_fenced keys seq store) seq answer line))
          by true = gone_is
          by false = adopted_is t.transaction (after_read_fenced keys seq store) seq answer line is.begun (fenced_store keys seq store is_store) good

      join_is : (seq : ℕ) (p : List ℕ) (result : Option Outcome) → SomeHas (λ o. is_outcome o ≡ true) result → IsMove fs (length t.answers) (adopts_join t store seq p result)
      join_is seq p None has = stays (l.WaitsJoin p)
      join_is seq p (Some outcome) has = adopted_is t.transaction store seq (a.Joined outcome) (l.AdoptJoin (seqnum seq) p outcome) is.begun is_store has

      operation_is : (seq : ℕ) (body : Body) (other : Move) → seq ≤ n → in_range body ≡ true → IsMove fs (length t.answers) other → IsMove fs (length t.answers) (adopts_operation t store view seq body other)
      operation_is seq (b.Read p i key) other le range rest =
          let v = fenced_value (read_fenced key seq store view) in
          marker_is seq (key ∷ []) (a.Value v) (l.AdoptRead (seqnum seq) key v) (fenced_val fs n store is_store key seq view seen)
      operation_is seq (b.ReadGroup p i keys) other le range rest =
          let vs = read_all (λ key. read_fenced key seq store view) keys in
          marker_is seq keys (a.Values vs) (l.AdoptReadAll (seqnum seq) (zip keys vs)) (reads_are (λ key. read_fenced key seq store view) (λ key. fenced_val fs n store is_store key seq view seen) keys)
      operation_is seq (b.Write p i place key value) other le range rest = adopted_is t.transaction store seq a.Done (l.AdoptWrite (seqnum seq) key) is.begun is_store refl
      operation_is seq (b.Spawn p i ordinal f args) other le range rest =
          adopted_is t.transaction store seq (a.Spawned ordinal) (l.AdoptSpawn (seqnum seq) (child p ordinal)) is.begun is_store
          (and_parts (is_step_id p i && leb (length p) 3) (is_ordinal ordinal)
          (and_parts (is_step_id p i && leb (length p) 3 && is_ordinal ordinal) (is_identifier f)
          (and_parts (is_step_id p i && leb (length p) 3 && is_ordinal ordinal && is_identifier f) (is_short_list args)
          (and_parts (is_step_id p i && leb (length p) 3 && is_ordinal ordinal && is_identifier f && is_short_list args) (list_all is_value args) range).0).0).0).1
      operation_is seq (b.Join p i ordinal) other le range rest = join_is seq (child p ordinal) (result_of (child p ordinal) view) (result_has fs n (child p ordinal) view seen)
      operation_is seq (b.Push p i queue value) other le range rest = adopted_is t.transaction store seq a.Done (l.AdoptPush (seqnum seq) queue) is.begun is_store refl
      operation_is seq (b.Pop p i queue) other le range rest =
          let v = front queue (queues (records_below seq view)) in
          adopted_is t.transaction store seq (a.Value v) (l.AdoptPop (seqnum seq) queue v) is.begun is_store (front_val fs n queue (records_below seq view) (upto_has (IsSeen fs n) (seq - 1) view seen))
      operation_is seq (b.TxnBegin p i names) other le range rest =
          let vs = values_of_names names (store_values (commits (records_below seq view))) in
          adopted_is (Some seq) store seq (a.Values vs) (l.AdoptBegin (seqnum seq) (zip names vs)) (seq_word seq le) is_store (begun_values fs n names (records_below seq view) (upto_has (IsSeen fs n) (seq - 1) view seen))
      operation_is seq (b.TxnCommit p i begin names writes) other le range rest =
          let good = is_committed seq view in adopted_is None store seq (a.Committed good) (l.AdoptCommit (seqnum seq) good) refl is_store refl
      operation_is seq _ other le range rest = rest

    -- What an asked operation does.

    reads_is : (key : List ℕ) (mode : Mode) → is_name key ≡ true → IsMove fs (length t.answers) (reads t store view at key mode)
    reads_is key R name = by (ltb t.cursor store.floor)
      where
        v : Value
        v = fenced_value (read_free key t.cursor store view)

        by : (c : Bool) → IsMove fs (length t.answers) (cond c (stop_gone t store) (moves (answered_with t (a.Value v)) store (l.Read key v)))
        by true = gone_is
        by false = record { attempt = free_is t (a.Value v) is (free_val fs n store is_store key t.cursor view seen); few = omega arith; sends = tt; store = is_store }
    reads_is key _ name = sends_is (b.Read t.path (next_index t.answers) key) (l.SendRead at key) (body_is None (k.Op (o.Read key)) refl name)

    reads_group_is : (keys : List (List ℕ)) (mode : Mode) → are_names keys ≡ true → IsMove fs (length t.answers) (reads_group t store view at keys mode)
    reads_group_is keys R names = by (ltb t.cursor store.floor)
      where
        vs : List Value
        vs = read_all (λ key. read_free key t.cursor store view) keys

        by : (c : Bool) → IsMove fs (length t.answers) (cond c (stop_gone t store) (moves (answered_with t (a.Values vs)) store (l.ReadAll (zip keys vs))))
        by true = gone_is
        by false = record { attempt = free_is t (a.Values vs) is (reads_are (λ key. read_free key t.cursor store view) (λ key. free_val fs n store is_store key t.cursor view seen) keys); few = omega arith; sends = tt; store = is_store }
    reads_group_is keys _ names = sends_is (b.ReadGroup t.path (next_index t.answers) keys) (l.SendReadAll at keys) (body_is None (k.Op (o.ReadGroup keys)) refl names)

    module _ (key : List ℕ) (v : Value) (name : is_name key ≡ true) (value : IsVal v) where
      sends_write_is : (here : Option Value) → is_optional_value here ≡ true → IsMove fs (length t.answers) (send_write t store at key v here)
      sends_write_is here good = sends_is (b.Write t.path (next_index t.answers) t.place key here) (l.SendWrite at key here) (body_is here (k.Op (o.Write key v)) good (and_from (is_name key) (is_value v) name value))

      logs_is : (inline store_values : Bool) → IsMove fs (length t.answers) (logged_write_step inline store_values t store at key v)
      logs_is true store_values = sends_write_is (Some v) value
      logs_is false true = sends_write_is None refl
      logs_is false false = by (ltb t.cursor store.floor)
        where
          by : (c : Bool) → IsMove fs (length t.answers) (cond c (stop_gone t store) (moves (record t { stored = true }) (after_put_named (next_write_name t) t.cursor v store) (l.Store key v)))
          by true = gone_is
          by false = record {
            attempt = record { path = is.path; args = is.args; answers = is.answers; function = is.function; place = is.place; free_writes = is.free_writes; begun = is.begun };
            few = omega arith;
            sends = tt;
            store = named_store (next_write_name t) t.cursor v store value is_store;
          }

      puts_is : (put : Put) → IsMove fs (length t.answers) (free_write_step put t store key v)
      puts_is put.Gone = gone_is
      puts_is put.Late = record { attempt = record { path = is.path; args = is.args; answers = is.answers; function = is.function; place = is.place; free_writes = is.free_writes; begun = is.begun }; few = omega arith; sends = tt; store = is_store }
      puts_is put.Done = record {
        attempt = record { path = is.path; args = is.args; answers = is.answers; function = is.function; place = (let le = is.place in omega (arith, le)); free_writes = (let le = is.free_writes in omega (arith, le)); begun = is.begun };
        few = omega arith;
        sends = tt;
        store = put_store key t.cursor (suc t.free_writes) v store value is_store;
      }

      writes_is : (mode : Mode) (late : Bool) → IsMove fs (length t.answers) (writes setup t store at key v mode late)
      writes_is W false = puts_is (put_at key t.cursor (suc t.free_writes) store)
      writes_is W true = logs_is (is_inline setup t v) t.stored
      writes_is R late = logs_is (is_inline setup t v) t.stored
      writes_is T late = logs_is (is_inline setup t v) t.stored

    joins_is : (ordinal : ℕ) (result : Option Outcome) → is_ordinal ordinal ≡ true → IsMove fs (length t.answers) (join_step t store at ordinal result)
    joins_is ordinal None good = stays (l.WaitsJoin (child t.path ordinal))
    joins_is ordinal (Some outcome) good = sends_is (b.Join t.path (next_index t.answers) ordinal) (l.SendJoin at (child t.path ordinal)) (body_is None (k.Op (o.Join ordinal)) refl good)

    operates_is : (op : Op) → is_op fs (length t.path) op ≡ true → IsMove fs (length t.answers) (operation_step setup fs t store view at op)
    operates_is (o.Read key) good = reads_is key t.mode good
    operates_is (o.ReadGroup keys) good = reads_group_is keys t.mode good
    operates_is (o.Write key v) good = let parts = and_parts (is_name key) (is_value v) good in writes_is key v parts.0 parts.1 t.mode t.late
    operates_is (o.Spawn ordinal f args) good = sends_is (b.Spawn t.path (next_index t.answers) ordinal (function_name f fs) args) (l.SendSpawn at (child t.path ordinal) f args) (body_is None (k.Op (o.Spawn ordinal f args)) refl good)
    operates_is (o.Join ordinal) good = joins_is ordinal (result_of (child t.path ordinal) view) good
    operates_is (o.Push queue v) good = sends_is (b.Push t.path (next_index t.answers) queue v) (l.SendPush at queue v) (body_is None (k.Op (o.Push queue v)) refl good)
    operates_is (o.Pop queue) good = sends_is (b.Pop t.path (next_index t.answers) queue) (l.SendPop at queue) (body_is None (k.Op (o.Pop queue)) refl good)
    operates_is (o.Begin names) good = sends_is (b.TxnBegin t.path (next_index t.answers) names) (l.SendBegin at names) (body_is None (k.Op (o.Begin names)) refl good)
    operates_is (o.Commit names ws) good = sends_is (b.TxnCommit t.path (next_index t.answers) (unwrap_or t.transaction 0) names ws) (l.SendCommit at ws) (body_is None (k.Op (o.Commit names ws)) refl good)

    -- The cases in order.

    asks_is : (ask : Option Ask) → SomeHas (λ ask. is_ask fs (length t.path) ask ≡ true) ask → IsMove fs (length t.answers) (script_step setup fs t store view at ask)
    asks_is None good = stays l.Idle
    asks_is (Some (k.Done outcome)) good = sends_is (b.Finish t.path (next_index t.answers) outcome) (l.SendFinish at outcome) (body_is None (k.Done outcome) refl good)
    asks_is (Some (k.Op op)) good = operates_is op good

    waiting_is : (waiting : Bool) (other : Move) → IsMove fs (length t.answers) other → IsMove fs (length t.answers) (unless_waiting waiting t store other)
    waiting_is true other rest = stays l.WaitsRecord
    waiting_is false other rest = rest

    -- a record that answers is one that is seen
    answer_has : (ask : Option Ask) (x : Option (Live Body)) → SomeHas (IsSeen fs n) x → SomeHas (IsSeen fs n) (answers_to t ask x)
    answer_has None x has = tt
    answer_has (Some (k.Done outcome)) x has = tt
    answer_has (Some (k.Op op)) None has = tt
    answer_has (Some (k.Op op)) (Some x) has = by (has_index (next_index t.answers) (step_of x.holds))
      where
        by : (c : Bool) → SomeHas (IsSeen fs n) (cond c (Some x) None)
        by true = has
        by false = tt

    asked_has : SomeHas (λ ask. is_ask fs (length t.path) ask ≡ true) (attempt_ask fs t)
    asked_has = ask_is fs (length t.path) are t.function t.args t.answers is.args is.answers

    takes_is : (called : has_arity (length t.args) (function_at t.function fs) ≡ true) (x : Option (Live Body)) (other : Move) → SomeHas (IsSeen fs n) x → IsMove fs (length t.answers) other → IsMove fs (length t.answers) (adopt_or t store view x other)
    takes_is called None other has rest = rest
    takes_is called (Some x) other has rest = operation_is called x.seq x.holds other has.seq has.body.range rest

    goes_on_is : has_arity (length t.args) (function_at t.function fs) ≡ true → IsMove fs (length t.answers) (continue_step setup fs t store view at (attempt_ask fs t))
    goes_on_is called =
        takes_is called (answers_to t (attempt_ask fs t) (nth (step_tag t.path) t.place view)) (unless_waiting t.waiting t store (script_step setup fs t store view at (attempt_ask fs t)))
        (answer_has (attempt_ask fs t) (nth (step_tag t.path) t.place view) (nth_has (IsSeen fs n) (step_tag t.path) t.place view seen))
        (waiting_is t.waiting (script_step setup fs t store view at (attempt_ask fs t)) (asks_is (attempt_ask fs t) asked_has))

    begins_is : (call : Call) (x : Option (Live Body)) → t.place ≡ 0 → IsCall fs n call → IsMove fs (length t.answers) (init_step setup fs t store view at call x)
    begins_is call None zero_is has = waiting_is t.waiting (sends_record t store (b.Init t.path) (l.SendInit at)) (sends_is (b.Init t.path) (l.SendInit at) (record { range = is.path; known = refl }))
    begins_is call (Some x) zero_is has = record {
      attempt = record { path = is.path; args = has.args; answers = is.answers; function = known_at fs are (length call.args) call.function has.known; place = omega (arith, zero_is); free_writes = omega arith; begun = is.begun };
      few = omega arith;
      sends = tt;
      store = is_store;
    }

    placed_is : (call : Call) (place : ℕ) → t.place ≡ place → IsCall fs n call → IsMove fs (length t.answers) (step_at_place setup fs t store view at call place)
    placed_is call zero e has = begins_is call (nth (step_tag t.path) 0 view) e has
    placed_is call (suc place) e has = goes_on_is (subst (HasFunction fs t.function t.args) e is.function)

    with_call_is : (result : Option Outcome) (call : Option Call) → SomeHas (IsCall fs n) call → IsMove fs (length t.answers) (step_when_called setup fs t store view at result call)
    with_call_is (Some outcome) call has = record { attempt = record { path = is.path; args = is.args; answers = is.answers; function = is.function; place = is.place; free_writes = is.free_writes; begun = is.begun }; few = omega arith; sends = tt; store = is_store }
    with_call_is None None has = stays l.WaitsCall
    with_call_is None (Some call) has = placed_is call t.place refl has

    running_is : (life : Life) → IsMove fs (length t.answers) (step_if_running setup fs t store view at life)
    running_is Running = with_call_is (result_of t.path view) (call_of t.path view) (call_of_has fs n t.path view seen)
    running_is Over = stays l.Idle
    running_is Stopped = stays l.Idle
    running_is Killed = stays l.Idle

    pub step_is : IsMove fs (length t.answers) (step setup fs store view at t)
    step_is = running_is t.life

-- A store call whose answer is lost.

module _ (fs : List Function) (are : AreFunctions fs) (setup : Setup) (t : Attempt) (store : Store) (view : List (Live Body)) (is : AttemptInRange fs t) (is_store : StoreInRange store) where
  marker_missed : (seq : ℕ) (keys : List (List ℕ)) → StoreInRange (misses_marker store seq keys).store
  marker_missed seq keys = by (ltb seq store.floor)
    where
      by : (c : Bool) → StoreInRange (cond c (nothing_missed store) (record { store = after_read_fenced keys seq store; what = m.Fence })).store
      by true = is_store
      by false = fenced_store keys seq store is_store

  record_missed : (seq : ℕ) (body : Body) → StoreInRange (misses_record store seq body).store
  record_missed seq (b.Read p i key) = marker_missed seq (key ∷ [])
  record_missed seq (b.ReadGroup p i keys) = marker_missed seq keys
  record_missed seq _ = is_store

  module _ (key : List ℕ) (v : Value) (value : IsVal v) where
    put_missed : (put : Put) → StoreInRange (misses_put put t store key v).store
    put_missed put.Done = put_store key t.cursor (suc t.free_writes) v store value is_store
    put_missed put.Late = is_store
    put_missed put.Gone = is_store

    logged_missed : StoreInRange (cond (is_inline setup t v || t.stored) (nothing_missed store) (misses_store (ltb t.cursor store.floor) t store v)).store
    logged_missed = by (is_inline setup t v || t.stored) (ltb t.cursor store.floor)
      where
        by : (c d : Bool) → StoreInRange (cond c (nothing_missed store) (misses_store d t store v)).store
        by true d = is_store
        by false true = is_store
        by false false = named_store (next_write_name t) t.cursor v store value is_store

    write_missed : (mode : Mode) (late : Bool) → StoreInRange (misses_write setup t store key v mode late).store
    write_missed W false = put_missed (put_at key t.cursor (suc t.free_writes) store)
    write_missed W true = logged_missed
    write_missed R late = logged_missed
    write_missed T late = logged_missed

  asked_missed : (ask : Option Ask) → SomeHas (λ ask. is_ask fs (length t.path) ask ≡ true) ask → StoreInRange (misses_asked setup t store ask).store
  asked_missed None good = is_store
  asked_missed (Some (k.Done outcome)) good = is_store
  asked_missed (Some (k.Op (o.Write key v))) good = write_missed key v (and_parts (is_name key) (is_value v) good).1 t.mode t.late
  asked_missed (Some (k.Op _)) good = is_store

  at_missed : (ask : Option Ask) (x : Option (Live Body)) → SomeHas (λ ask. is_ask fs (length t.path) ask ≡ true) ask → StoreInRange (misses_at setup t store ask x).store
  at_missed ask (Some x) good = record_missed x.seq x.holds
  at_missed ask None good = by t.waiting
    where
      by : (c : Bool) → StoreInRange (cond c (nothing_missed store) (misses_asked setup t store ask)).store
      by true = is_store
      by false = asked_missed ask good

  placed_missed : (place : ℕ) → StoreInRange (misses_placed setup fs t store view place).store
  placed_missed zero = is_store
  placed_missed (suc place) = at_missed (attempt_ask fs t) (answers_to t (attempt_ask fs t) (nth (step_tag t.path) t.place view)) (ask_is fs (length t.path) are t.function t.args t.answers is.args is.answers)

  with_missed : (result : Option Outcome) (call : Option Call) → StoreInRange (misses_with setup fs t store view result call).store
  with_missed None (Some call) = placed_missed t.place
  with_missed None None = is_store
  with_missed (Some outcome) call = is_store

  running_missed : (life : Life) → StoreInRange (misses_if setup fs t store view life).store
  running_missed Running = with_missed (result_of t.path view) (call_of t.path view)
  running_missed Over = is_store
  running_missed Stopped = is_store
  running_missed Killed = is_store

  pub miss_is : StoreInRange (miss setup fs store view t).store
  miss_is = running_missed t.life
