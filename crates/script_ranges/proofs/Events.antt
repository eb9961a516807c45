-- Every event keeps the ranges.
use Rattle.std.proofs.Common.{◌≡◌, ℕ, zero, suc, ◌-◌, ◌≤◌, ◌^◌, Bool, true, false, cond, eqb, leb, ltb, ◌==◌, ◌&&◌, List, [], ◌∷◌, length, map, Option, Some, None, refl, arith}
use Rattle.std.specs.Prelude.{replicate, is_some}
use Rattle.std.specs.List.{list_all, AllByRecursion}
use Rattle.std.proofs.lemmas.Bool.{and_parts, and_from, le-leb, ltb-true, lt-ltb}
use Rattle.lb_base.specs.declared.value.Value.{Value}
use Rattle.lb_base.specs.Path.{is_path, is_request}
use Rattle.boki_types.specs.declared.body.Body.{Body}
use Rattle.boki_types.specs.declared.body.Body.TheVariants as b
use Rattle.boki_types.specs.declared.event.Event.TheVariants as v
use Rattle.boki_types.specs.declared.line.Line.TheVariants as l
use Rattle.boki_types.specs.declared.line.Life.TheVariants.{Killed}
use Rattle.boki_types.specs.declared.plan.Setup.{Setup}
use Rattle.boki_types.specs.declared.program.Function.{Function}
use Rattle.boki_types.specs.Finding.{function_at}
use Rattle.boki_model.specs.Live.{LogRecord, Live}
use Rattle.boki_model.specs.Order.{progress}
use Rattle.boki_model.specs.Bodies.{is_value, is_name, is_u64, is_target, is_identifier, is_short_list}
use Rattle.boki_model.specs.Modes.{Switch, least_open, modes, init_path, result_of}
use Rattle.std.specs.Prelude.{unwrap_or}
use Rattle.boki_model.specs.Floor.{open_init, first_open, trim_limit}
use Rattle.boki_model.specs.Plans.{distinct, has_arity, is_user_tag, is_from_one_to, is_attempt}
use Rattle.boki_machine.specs.Attempt.{Attempt, Move}
use Rattle.boki_machine.specs.Step.{function_name, step, is_running, can_lose, after_lose, after_kill}
use Rattle.boki_machine.specs.Machine.{NumberedAttempt, Machine, event_result, log, position, view, home_shard, next_sent, append_to, log_record, unconditional_record, submit_record, first_tag, cut, cuts_nothing, attempt_at, set_attempt, with_attempt, runs_on, kill_on, start_attempt, append_sent, apply_move, step_attempt, kill_attempt, lose_record, miss_attempt, end_if_all_ended, send_switch_end, with_aux, set_aux, get_aux, aux_at, aux_of}
use Rattle.exactly_once.specs.FurtherLaws.Words.{all_records}
use Rattle.exactly_once.proofs.Machines.ShardsAndVectors.{each_add}
use Rattle.script_ranges.specs.Asks.{AreFunctions}
use Rattle.script_ranges.specs.Ranged.{BodyInRange, AttemptInRange, IsRanged, HasIndex, OpeningIsRanged, EventsKeepRanges}
use Rattle.script_ranges.proofs.Each.{SomeHas, each_of}
use Rattle.script_ranges.proofs.Functions.{named_at, few_args}
use Rattle.script_ranges.proofs.Views.{Seen, or_else_has, machine_sees}
use Rattle.script_ranges.proofs.Steps.{IsMove, step_is, miss_is}

-- Lists of attempts.

module _ (P : Attempt → Type 0) where
  abbrev pub Each_attempt : List NumberedAttempt → Type 0
  Each_attempt xs = AllByRecursion (λ x. P x.attempt) xs

  pub found_has : (n : ℕ) (xs : List NumberedAttempt) → Each_attempt xs → SomeHas P (attempt_at n xs)
  found_has n [] all = tt
  found_has n (x ∷ xs) all = at (eqb n x.number) (found_has n xs all.1)
    where
      at : (t : Bool) → SomeHas P (attempt_at n xs) → SomeHas P (cond t (Some x.attempt) (attempt_at n xs))
      at true rest = all.0
      at false rest = rest

  pub set_has : (n : ℕ) (a : Attempt) (xs : List NumberedAttempt) → P a → Each_attempt xs → Each_attempt (set_attempt n a xs)
  set_has n a [] one all = tt
  set_has n a (x ∷ xs) one all = at (eqb n x.number) (set_has n a xs one all.1)
    where
      at : (t : Bool) → Each_attempt (set_attempt n a xs) → Each_attempt (cond t (record { number = n; attempt = a } ∷ xs) (x ∷ set_attempt n a xs))
      at true rest = (one, all.1)
      at false rest = (all.0, rest)

  pub kill_has : (engine : ℕ) (xs : List NumberedAttempt) → ((a : Attempt) → P a → P (after_kill a)) → Each_attempt xs → Each_attempt (kill_on engine xs)
  kill_has engine [] killed all = tt
  kill_has engine (x ∷ xs) killed all = (at (runs_on engine x.attempt), kill_has engine xs killed all.1)
    where
      at : (t : Bool) → P (cond t (record x { attempt = after_kill x.attempt }) x).attempt
      at true = killed x.attempt all.0
      at false = all.0

killed_is : (fs : List Function) (a : Attempt) → AttemptInRange fs a → AttemptInRange fs (after_kill a)
killed_is fs a is = at (is_running a.life)
  where
    at : (t : Bool) → AttemptInRange fs (cond t (record a { life = Killed }) a)
    at true = record { path = is.path; args = is.args; answers = is.answers; function = is.function; place = is.place; free_writes = is.free_writes; begun = is.begun }
    at false = is

lost_is : (fs : List Function) (a : Attempt) → AttemptInRange fs a → AttemptInRange fs (after_lose a)
lost_is fs a is = at (can_lose a)
  where
    at : (t : Bool) → AttemptInRange fs (cond t (record a { waiting = false }) a)
    at true = record { path = is.path; args = is.args; answers = is.answers; function = is.function; place = is.place; free_writes = is.free_writes; begun = is.begun }
    at false = is

-- What an engine may trim.

module _ (fs : List Function) (n : ℕ) (words : is_u64 n ≡ true) where
  open_word : (records : List (Live Body)) (seq : ℕ) (o : Option (List ℕ)) → seq ≤ n → SomeHas (λ w. is_u64 w ≡ true) (open_init records seq o)
  open_word records seq None le = tt
  open_word records seq (Some path) le = at (is_some (result_of path records))
    where
      at : (t : Bool) → SomeHas (λ w. is_u64 w ≡ true) (cond t None (Some seq))
      at true = tt
      at false = let lt = ltb-true n (2 ^ 64) words in lt-ltb seq (2 ^ 64) (omega (arith, lt, le))

  first_word : (records xs : List (Live Body)) → Seen fs n xs → SomeHas (λ w. is_u64 w ≡ true) (first_open records xs)
  first_word records [] all = tt
  first_word records (x ∷ xs) all =
      or_else_has (λ w. is_u64 w ≡ true) (first_open records xs) (open_init records x.seq (init_path x.holds)) (first_word records xs all.1) (open_word records x.seq (init_path x.holds) all.0.seq)

  trim_word : (p : ℕ) (seen : List (Live Body)) → is_u64 (suc p) ≡ true → Seen fs n seen → is_u64 (trim_limit p seen) ≡ true
  trim_word p seen word all = at (first_open seen seen) (first_word seen seen all)
    where
      at : (o : Option ℕ) → SomeHas (λ w. is_u64 w ≡ true) o → is_u64 (unwrap_or o (suc p)) ≡ true
      at None has = word
      at (Some w) has = has

-- A request's path.
request_is : (request : ℕ) → is_request request ≡ true → is_path (request ∷ []) ≡ true
request_is request is = and_from (is_request request && true) true (and_from (is_request request) true is refl) refl

module _ (setup : Setup) (fs : List Function) (are : AreFunctions fs) (m : Machine) (is : IsRanged fs m) where
  seen_has : (engine : ℕ) → Seen fs (length (log m)) (view m engine)
  seen_has engine = machine_sees fs m engine is

  append_is : (shard : ℕ) (r : LogRecord Body) → BodyInRange fs r.holds → IsRanged fs (append_to shard r m)
  append_is shard r one = record { records = each_add (λ r. BodyInRange fs r.holds) (shard - 1) r m.shards one is.records; store = is.store; attempts = is.attempts }

  cut_is : IsRanged fs (cut m)
  cut_is = at (cuts_nothing m)
    where
      at : (t : Bool) → IsRanged fs (cond t m (record m { vectors = progress m.shards m.counts ∷ m.vectors }))
      at true = is
      at false = record { records = is.records; store = is.store; attempts = is.attempts }

  -- of attempts

  moved_is : (n engine k : ℕ) (move : Move) → IsMove fs k move → IsRanged fs (apply_move setup m n engine move).machine
  moved_is n engine k move moves = at move.sends moves.sends
    where
      at : (r : Option (LogRecord Body)) → SomeHas (λ r. BodyInRange fs r.holds) r → IsRanged fs (append_sent setup engine r (with_attempt n move.attempt (record m { store = move.store })))
      at None has = record { records = is.records; store = moves.store; attempts = set_has (AttemptInRange fs) n move.attempt m.attempts moves.attempt is.attempts }
      at (Some r) has = record {
        records = each_add (λ r. BodyInRange fs r.holds) (home_shard setup engine - 1) r m.shards has is.records;
        store = moves.store;
        attempts = set_has (AttemptInRange fs) n move.attempt m.attempts moves.attempt is.attempts;
      }

  steps_is : (n : ℕ) (a : Option Attempt) → is_u64 (length (log m)) ≡ true → HasIndex a → SomeHas (AttemptInRange fs) a → IsRanged fs (step_attempt setup fs m n a).machine
  steps_is n None words index has = is
  steps_is n (Some a) words index has =
      let at = next_sent setup m a.engine in
      moved_is n a.engine (length a.answers) (step setup fs m.store (view m a.engine) at a) (step_is fs are (length (log m)) words setup a m.store (view m a.engine) at index has is.store (seen_has a.engine))

  misses_is : (a : Option Attempt) → SomeHas (AttemptInRange fs) a → IsRanged fs (miss_attempt setup fs m a).machine
  misses_is None has = is
  misses_is (Some a) has = record { records = is.records; store = miss_is fs are setup a m.store (view m a.engine) has is.store; attempts = is.attempts }

  starts_is : (n : ℕ) (path : List ℕ) (engine : ℕ) (a : Option Attempt) → is_path path ≡ true → IsRanged fs (start_attempt m n path engine a).machine
  starts_is n path engine None good = record {
    records = is.records;
    store = is.store;
    attempts = (record { path = good; args = refl; answers = refl; function = tt; place = omega arith; free_writes = omega arith; begun = refl }, is.attempts);
  }
  starts_is n path engine (Some a) good = is

  kills_is : (n : ℕ) (a : Option Attempt) → SomeHas (AttemptInRange fs) a → IsRanged fs (kill_attempt m n a).machine
  kills_is n None has = is
  kills_is n (Some a) has = record { records = is.records; store = is.store; attempts = set_has (AttemptInRange fs) n (after_kill a) m.attempts (killed_is fs a has) is.attempts }

  loses_is : (n : ℕ) (a : Option Attempt) → SomeHas (AttemptInRange fs) a → IsRanged fs (lose_record m n a).machine
  loses_is n None has = is
  loses_is n (Some a) has = record { records = is.records; store = is.store; attempts = set_has (AttemptInRange fs) n (after_lose a) m.attempts (lost_is fs a has) is.attempts }

  attempt_has : (n : ℕ) → SomeHas (AttemptInRange fs) (attempt_at n m.attempts)
  attempt_has n = found_has (AttemptInRange fs) n m.attempts is.attempts

  -- of the book

  end_is : (engine : ℕ) (path : Option (List ℕ)) → IsRanged fs (end_if_all_ended setup m engine path).machine
  end_is engine None = append_is (home_shard setup engine) (unconditional_record b.SwitchEnd) (record { range = refl; known = refl })
  end_is engine (Some path) = is

  end_switch_is : (engine : ℕ) (seen : List (Live Body)) (s : Option Switch) → IsRanged fs (send_switch_end setup m engine seen s).machine
  end_switch_is engine seen None = is
  end_switch_is engine seen (Some s) = end_is engine (least_open s.begun seen)

  used_is : (engine seq : ℕ) (text : List ℕ) → IsRanged fs (with_aux m engine seq text)
  used_is engine seq text = record { records = is.records; store = is.store; attempts = is.attempts }

  sets_is : (engine seq : ℕ) (text : List ℕ) → IsRanged fs (set_aux m engine seq text).machine
  sets_is engine seq text = at (leb 1 seq && leb seq (position m engine))
    where
      at : (t : Bool) → IsRanged fs (cond t (event_result (with_aux m engine seq text) l.Set) (event_result m l.Absent)).machine
      at true = used_is engine seq text
      at false = is

  gets_is : (engine seq : ℕ) (o : Option (List ℕ)) → IsRanged fs (get_aux m engine seq o).machine
  gets_is engine seq None = is
  gets_is engine seq (Some text) = used_is engine seq text

caught_is : (fs : List Function) (m : Machine) (ps : List ℕ) → IsRanged fs m → IsRanged fs (record m { positions = ps })
caught_is fs m ps is = record { records = is.records; store = is.store; attempts = is.attempts }

pub events_keep_ranges : EventsKeepRanges
events_keep_ranges setup fs m (v.Submit engine request f args) are ok bytes room is =
    let arity = and_parts (is_from_one_to setup.engines engine && is_request request && list_all is_value args) (has_arity (length args) (function_at f fs)) ok in
    let valued = and_parts (is_from_one_to setup.engines engine && is_request request) (list_all is_value args) arity.0 in
    let asked = and_parts (is_from_one_to setup.engines engine) (is_request request) valued.0 in
    let named = named_at fs are (length args) f arity.1 in
    let name = function_name f fs in
    let path = request ∷ [] in
    append_is setup fs are m is (home_shard setup engine) (submit_record path name args)
    (record {
      range = and_from (is_path path && (length path == 1) && is_identifier name && is_short_list args) (list_all is_value args)
          (and_from (is_path path && (length path == 1) && is_identifier name) (is_short_list args)
          (and_from (is_path path && (length path == 1)) (is_identifier name) (and_from (is_path path) (length path == 1) (request_is request asked.1) refl) named.name)
          (le-leb (length args) 8 (few_args fs are (length args) f arity.1))) valued.1;
      known = named.known;
    })
events_keep_ranges setup fs m (v.Copy shard replica n) are ok bytes room is = record { records = is.records; store = is.store; attempts = is.attempts }
events_keep_ranges setup fs m v.Cut are ok bytes room is = cut_is setup fs are m is
events_keep_ranges setup fs m (v.Catch engine) are ok bytes room is = record { records = is.records; store = is.store; attempts = is.attempts }
events_keep_ranges setup fs m v.Sync are ok bytes room is = let rest = cut_is setup fs are m is in record { records = rest.records; store = rest.store; attempts = rest.attempts }
events_keep_ranges setup fs m (v.Restart engine) are ok bytes room is =
    record { records = is.records; store = is.store; attempts = kill_has (AttemptInRange fs) engine m.attempts (λ a one. killed_is fs a one) is.attempts }
events_keep_ranges setup fs m (v.Start n path engine) are ok bytes room is =
    starts_is setup fs are m is n path engine (attempt_at n m.attempts) (and_parts (is_attempt n) (is_path path) (and_parts (is_attempt n && is_path path) (is_from_one_to setup.engines engine) ok).0).1
events_keep_ranges setup fs m (v.Step n) are ok bytes room is = steps_is setup fs are m is n (attempt_at n m.attempts) room.0 room.1 (attempt_has setup fs are m is n)
events_keep_ranges setup fs m (v.Kill n) are ok bytes room is = kills_is setup fs are m is n (attempt_at n m.attempts) (attempt_has setup fs are m is n)
events_keep_ranges setup fs m (v.Lose n) are ok bytes room is = loses_is setup fs are m is n (attempt_at n m.attempts) (attempt_has setup fs are m is n)
events_keep_ranges setup fs m (v.Miss n) are ok bytes room is = misses_is setup fs are m is (attempt_at n m.attempts) (attempt_has setup fs are m is n)
events_keep_ranges setup fs m (v.Switch engine target) are ok bytes room is =
    append_is setup fs are m is (home_shard setup engine) (unconditional_record (b.SwitchBegin target)) (record { range = (and_parts (is_from_one_to setup.engines engine) (is_target target) ok).1; known = refl })
events_keep_ranges setup fs m (v.EndSwitch engine) are ok bytes room is = end_switch_is setup fs are m is engine (view m engine) (modes setup.mode (view m engine)).pending
events_keep_ranges setup fs m (v.Trim engine) are ok bytes room is =
    let w = trim_limit (position m engine) (view m engine) in
    append_is setup fs are m is (home_shard setup engine) (unconditional_record (b.Trim w))
    (record { range = trim_word fs (length (log m)) room.0 (position m engine) (view m engine) room.1 (seen_has setup fs are m is engine); known = refl })
events_keep_ranges setup fs m (v.Sweep engine) are ok bytes room is = record { records = is.records; store = record { initial = is.store.initial; named = is.store.named; versions = is.store.versions }; attempts = is.attempts }
events_keep_ranges setup fs m (v.Append engine tags text) are ok bytes room is = append_is setup fs are m is (home_shard setup engine) (log_record tags None (b.User text)) (record { range = bytes; known = refl })
events_keep_ranges setup fs m (v.Cond engine place tags text) are ok bytes room is =
    append_is setup fs are m is (home_shard setup engine) (log_record tags (Some (record { tag = first_tag tags; place = place })) (b.User text)) (record { range = bytes; known = refl })
events_keep_ranges setup fs m (v.TrimTag engine tag upto) are ok bytes room is =
    let bound = and_parts (is_from_one_to setup.engines engine && is_user_tag tag) (ltb upto.0 (2 ^ 64)) ok in
    let tagged = and_parts (is_from_one_to setup.engines engine) (is_user_tag tag) bound.0 in
    append_is setup fs are m is (home_shard setup engine) (unconditional_record (b.TrimTag tag.0 upto.0)) (record { range = and_from (is_user_tag tag) (is_u64 upto.0) tagged.1 bound.1; known = refl })
events_keep_ranges setup fs m (v.SetAux engine seq text) are ok bytes room is = sets_is setup fs are m is engine seq.0 text
events_keep_ranges setup fs m (v.GetAux engine seq) are ok bytes room is = gets_is setup fs are m is engine seq.0 (aux_at seq.0 (aux_of m engine))
events_keep_ranges setup fs m (v.Next engine tag from) are ok bytes room is = is
events_keep_ranges setup fs m (v.Prev engine tag upto) are ok bytes room is = is
events_keep_ranges setup fs m (v.Tail engine tag) are ok bytes room is = is
events_keep_ranges setup fs m (v.Settled engine shard local) are ok bytes room is = is
events_keep_ranges setup fs m (v.Seed n) are ok bytes room is = is

-- The opening.

no_records : (P : LogRecord Body → Type 0) (n : ℕ) → AllByRecursion P (all_records (replicate n []))
no_records P zero = tt
no_records P (suc n) = no_records P n

objects_have : (objects : List (List ℕ × Value)) → AllByRecursion (λ o. (is_name o.0 && is_value o.1) ≡ true) objects → AllByRecursion (λ o. is_value o.1 ≡ true) objects
objects_have [] all = tt
objects_have (o ∷ os) all = ((and_parts (is_name o.0) (is_value o.1) all.0).1, objects_have os all.1)

pub opening_is_ranged : OpeningIsRanged
opening_is_ranged setup fs objects ok = record {
  records = no_records (λ r. BodyInRange fs r.holds) setup.shards;
  store = record {
    initial = objects_have objects (each_of (λ o. is_name o.0 && is_value o.1) objects (and_parts (distinct (map (λ o. o.0) objects)) (list_all (λ o. is_name o.0 && is_value o.1) objects) ok).1);
    named = tt;
    versions = tt;
  };
  attempts = tt;
}
