-- What an engine sees is in range, and what is made of it: results, calls, queues, transactions and objects.
use Rattle.std.proofs.Common.{◌≡◌, ℕ, suc, ◌≤◌, Bool, true, false, cond, leb, ltb, ◌==◌, ◌&&◌, List, [], ◌∷◌, ◌++◌, length, drop, Option, Some, None, option_map, ⊎_elim, refl, sym, subst, arith}
use Rattle.std.specs.Prelude.{bytes_eq}
use Rattle.std.specs.List.{list_all, AllByRecursion}
use Rattle.std.proofs.lemmas.Bool.{and_parts}
use Rattle.lb_base.specs.declared.value.Value.{Value}
use Rattle.lb_base.specs.declared.value.Value.TheVariants.{Nothing}
use Rattle.boki_types.specs.declared.body.Body.{Body}
use Rattle.boki_types.specs.declared.body.Body.TheVariants as b
use Rattle.boki_types.specs.declared.log.Call.{Call}
use Rattle.boki_types.specs.declared.program.Function.{Function}
use Rattle.boki_types.specs.declared.store.Name.{Name}
use Rattle.boki_types.specs.declared.store.Fenced.{Fenced}
use Rattle.boki_types.specs.declared.store.Fenced.TheVariants as f
use Rattle.boki_model.specs.Order.{order, entry_records, last_vector}
use Rattle.boki_model.specs.Live.{LogRecord, Live, meets_condition, live, upto, has_tag, count}
use Rattle.std.specs.Option.{option_or}
use Rattle.boki_model.specs.Reads.{nth}
use Rattle.boki_model.specs.Bodies.{is_value, is_u64, is_name, is_outcome, is_optional_value, is_step_id, are_names, is_short_list, in_range, child}
use Rattle.boki_model.specs.Modes.{result_of, finish_of}
use Rattle.boki_model.specs.Maps.{get, put}
use Rattle.boki_model.specs.Folds.{queue_in, front_of, front, apply_to_queues, queues, Commit, succeeds, add_commit, commits, put_all, store_values, values_of_names}
use Rattle.boki_model.specs.Writes.{NamedValue, Version, Store, Write, write_at, same_name, value_under_name, logged_write, here_or_named, logged_write_of, prepend_some, logged_writes, version_writes, initial_writes, writes_of, is_below, later_write, last_write_below, fenced_answer, read_below, read_free, read_fenced}
use Rattle.boki_machine.specs.Attempt.{call_in, call_of}
use Rattle.boki_machine.specs.Step.{fenced_value, read_all}
use Rattle.boki_machine.specs.Machine.{Machine, log, position, view}
use Rattle.exactly_once.specs.FurtherLaws.Words.{IsAmong, all_records}
use Rattle.exactly_once.proofs.Log.ListElements.{each_append, each_weaker}
use Rattle.exactly_once.proofs.Machines.ShardsAndVectors.{added_among}
use Rattle.script_ranges.specs.Asks.{is_store_write}
use Rattle.script_ranges.specs.Ranged.{is_known_call, BodyInRange, StoreInRange, IsRanged}
use Rattle.script_ranges.proofs.Each.{SomeHas, each_of, all_of_each}
use Rattle.script_ranges.proofs.Evals.{IsVal, Each_value, get_has, put_has, or_has}

-- What is there.

pub or_else_has : {X : Type 0} (P : X → Type 0) (o p : Option X) → SomeHas P o → SomeHas P p → SomeHas P (option_or o p)
or_else_has P None p one two = two
or_else_has P (Some x) p one two = one

pub if_has : {X : Type 0} (P : X → Type 0) (b : Bool) (x : X) → P x → SomeHas P (cond b (Some x) None)
if_has P true x is = is
if_has P false x is = tt

-- Ordered and live records, and those of a view.

module _ {A : Type 0} (P : A → Type 0) where
  among_has : (x : A) (xs : List A) → AllByRecursion P xs → IsAmong x xs → P x
  among_has x [] all is = absurd is
  among_has x (y ∷ xs) all is = ⊎_elim (λ same. subst P (sym same) all.0) (λ rest. among_has x xs all.1 rest) is

  order_has : (shards : List (List A)) (vectors : List (List ℕ)) → AllByRecursion P (all_records shards) → AllByRecursion P (order shards vectors)
  order_has shards [] all = tt
  order_has shards (v ∷ vs) all =
      each_append P (entry_records shards (last_vector vs) v) (order shards vs)
      (each_weaker (λ x. IsAmong x (all_records shards)) P (λ x is. among_has x (all_records shards) all is) (entry_records shards (last_vector vs) v) (added_among shards (last_vector vs) v))
      (order_has shards vs all)

  -- a live record, with its seqnum
  abbrev pub IsLive : ℕ → Live A → Type 0
  IsLive n x = (x.seq ≤ n) × P x.holds

  live_has : (log : List (LogRecord A)) → AllByRecursion (λ r. P r.holds) log → AllByRecursion (IsLive (length log)) (live log)
  live_has [] all = tt
  live_has (r ∷ log) all =
      at (meets_condition r.condition (live log))
      (each_weaker (IsLive (length log)) (IsLive (length (r ∷ log))) (λ x is. (let le = is.0 in omega (arith, le), is.1)) (live log) (live_has log all.1))
    where
      at : (t : Bool) → AllByRecursion (IsLive (length (r ∷ log))) (live log) → AllByRecursion (IsLive (length (r ∷ log))) (cond t (record { seq = suc (length log); tags = r.tags; holds = r.holds } ∷ live log) (live log))
      at true rest = ((omega arith, all.0), rest)
      at false rest = rest

module _ {A : Type 0} (P : Live A → Type 0) where
  pub upto_has : (p : ℕ) (xs : List (Live A)) → AllByRecursion P xs → AllByRecursion P (upto p xs)
  upto_has p [] all = tt
  upto_has p (x ∷ xs) all = at (leb x.seq p) (upto_has p xs all.1)
    where
      at : (t : Bool) → AllByRecursion P (upto p xs) → AllByRecursion P (cond t (x ∷ xs) (upto p xs))
      at true rest = all
      at false rest = rest

  pub nth_has : (tag place : ℕ) (xs : List (Live A)) → AllByRecursion P xs → SomeHas P (nth tag place xs)
  nth_has tag place [] all = tt
  nth_has tag place (x ∷ xs) all = at (has_tag tag x.tags && (place == count tag xs)) (nth_has tag place xs all.1)
    where
      at : (t : Bool) → SomeHas P (nth tag place xs) → SomeHas P (cond t (Some x) (nth tag place xs))
      at true rest = all.0
      at false rest = rest

-- a record that an engine sees
pub record IsSeen (fs : List Function) (n : ℕ) (x : Live Body) : Type 0 where
  pub seq : x.seq ≤ n
  pub body : BodyInRange fs x.holds

view_has : (fs : List Function) (shards : List (List (LogRecord Body))) (vectors : List (List ℕ)) (p : ℕ) → AllByRecursion (λ r. BodyInRange fs r.holds) (all_records shards) → AllByRecursion (IsSeen fs (length (order shards vectors))) (upto p (live (order shards vectors)))
view_has fs shards vectors p all =
    let log = order shards vectors in
    upto_has (IsSeen fs (length log)) p (live log)
    (each_weaker (IsLive (BodyInRange fs) (length log)) (IsSeen fs (length log)) (λ x is. record { seq = is.0; body = is.1 }) (live log)
    (live_has (BodyInRange fs) log (order_has (λ r. BodyInRange fs r.holds) shards vectors all)))

pub machine_sees : (fs : List Function) (m : Machine) (engine : ℕ) → IsRanged fs m → AllByRecursion (IsSeen fs (length (log m))) (view m engine)
machine_sees fs m engine is = view_has fs m.shards m.vectors (position m engine) is.records

module _ (fs : List Function) (n : ℕ) where
  abbrev pub Seen : List (Live Body) → Type 0
  Seen view = AllByRecursion (IsSeen fs n) view

  -- Results and calls.

  finish_has : (path : List ℕ) (body : Body) → in_range body ≡ true → SomeHas (λ o. is_outcome o ≡ true) (finish_of path body)
  finish_has path (b.Finish p i outcome) is = if_has (λ o. is_outcome o ≡ true) (bytes_eq path p) outcome (and_parts (is_step_id p i) (is_outcome outcome) is).1
  finish_has path _ is = tt

  pub result_has : (path : List ℕ) (view : List (Live Body)) → Seen view → SomeHas (λ o. is_outcome o ≡ true) (result_of path view)
  result_has path [] all = tt
  result_has path (x ∷ xs) all = or_else_has (λ o. is_outcome o ≡ true) (result_of path xs) (finish_of path x.holds) (result_has path xs all.1) (finish_has path x.holds all.0.body.range)

  pub record IsCall (call : Call) : Type 0 where
    pub known : is_known_call fs call.function call.args ≡ true
    pub args : list_all is_value call.args ≡ true

  call_has : (path : List ℕ) (body : Body) → BodyInRange fs body → SomeHas IsCall (call_in path body)
  call_has path (b.Submit p f args) is = if_has IsCall (bytes_eq path p) (record { function = f; args = args }) (record { known = is.known; args = (and_parts _ (list_all is_value args) is.range).1 })
  call_has path (b.Spawn p i ordinal f args) is = if_has IsCall (bytes_eq path (child p ordinal)) (record { function = f; args = args }) (record { known = is.known; args = (and_parts _ (list_all is_value args) is.range).1 })
  call_has path _ is = tt

  pub call_of_has : (path : List ℕ) (view : List (Live Body)) → Seen view → SomeHas IsCall (call_of path view)
  call_of_has path [] all = tt
  call_of_has path (x ∷ xs) all = or_else_has IsCall (call_of path xs) (call_in path x.holds) (call_of_has path xs all.1) (call_has path x.holds all.0.body)

  -- Queues.

  abbrev AreValues : List Value → Type 0
  AreValues vs = AllByRecursion IsVal vs

  queue_has : (q : List ℕ) (qs : List (List ℕ × List Value)) → Each_value AreValues qs → AreValues (queue_in q qs)
  queue_has q qs all = or_has AreValues (get q qs) [] (get_has AreValues q qs all) tt

  dropped : (vs : List Value) → AreValues vs → AreValues (drop 1 vs)
  dropped [] all = tt
  dropped (v ∷ vs) all = all.1

  queued_has : (body : Body) (qs : List (List ℕ × List Value)) → in_range body ≡ true → Each_value AreValues qs → Each_value AreValues (apply_to_queues body qs)
  queued_has (b.Push p i q v) qs is all =
      put_has AreValues q (queue_in q qs ++ v ∷ []) qs (each_append IsVal (queue_in q qs) (v ∷ []) (queue_has q qs all) ((and_parts (is_step_id p i && is_name q) (is_value v) is).1, tt)) all
  queued_has (b.Pop p i q) qs is all = put_has AreValues q (drop 1 (queue_in q qs)) qs (dropped (queue_in q qs) (queue_has q qs all)) all
  queued_has _ qs is all = all

  queues_have : (view : List (Live Body)) → Seen view → Each_value AreValues (queues view)
  queues_have [] all = tt
  queues_have (x ∷ xs) all = queued_has x.holds (queues xs) all.0.body.range (queues_have xs all.1)

  pub front_val : (q : List ℕ) (view : List (Live Body)) → Seen view → IsVal (front q (queues view))
  front_val q view all = at (queue_in q (queues view)) (queue_has q (queues view) (queues_have view all))
    where
      at : (vs : List Value) → AreValues vs → IsVal (front_of vs)
      at [] is = refl
      at (v ∷ vs) is = is.0

  -- Transactions.

  abbrev WritesValues : Commit → Type 0
  WritesValues c = Each_value IsVal c.writes

  writes_have : (writes : List (List ℕ × Value)) → AllByRecursion (λ w. is_store_write w ≡ true) writes → Each_value IsVal writes
  writes_have [] all = tt
  writes_have (w ∷ ws) all = ((and_parts (is_name w.0) (is_value w.1) all.0).1, writes_have ws all.1)

  committed_has : (seq : ℕ) (body : Body) (past : List Commit) → in_range body ≡ true → AllByRecursion WritesValues past → AllByRecursion WritesValues (add_commit seq body past)
  committed_has seq (b.TxnCommit p i begin names writes) past is all = at (succeeds begin names writes past)
    where
      values : Each_value IsVal writes
      values = writes_have writes (each_of is_store_write writes (and_parts (is_step_id p i && is_u64 begin && are_names names && is_short_list writes) (list_all is_store_write writes) is).1)

      at : (t : Bool) → AllByRecursion WritesValues (cond t (record { seq = seq; writes = writes } ∷ past) past)
      at true = (values, all)
      at false = all
  committed_has seq _ past is all = all

  commits_have : (view : List (Live Body)) → Seen view → AllByRecursion WritesValues (commits view)
  commits_have [] all = tt
  commits_have (x ∷ xs) all = committed_has x.seq x.holds (commits xs) all.0.body.range (commits_have xs all.1)

  put_all_have : (ws names : List (List ℕ × Value)) → Each_value IsVal ws → Each_value IsVal names → Each_value IsVal (put_all ws names)
  put_all_have [] names all is = is
  put_all_have (w ∷ ws) names all is = put_all_have ws (put w.0 w.1 names) all.1 (put_has IsVal w.0 w.1 names all.0 is)

  stored_have : (cs : List Commit) → AllByRecursion WritesValues cs → Each_value IsVal (store_values cs)
  stored_have [] all = tt
  stored_have (c ∷ cs) all = put_all_have c.writes (store_values cs) all.0 (stored_have cs all.1)

  values_have : (ns : List (List ℕ)) (names : List (List ℕ × Value)) → Each_value IsVal names → AreValues (values_of_names ns names)
  values_have [] names all = tt
  values_have (k ∷ ns) names all = (or_has IsVal (get k names) Nothing (get_has IsVal k names all) refl, values_have ns names all)

  pub begun_values : (ns : List (List ℕ)) (view : List (Live Body)) → Seen view → list_all is_value (values_of_names ns (store_values (commits view))) ≡ true
  begun_values ns view all = all_of_each is_value (values_of_names ns (store_values (commits view))) (values_have ns (store_values (commits view)) (stored_have (commits view) (commits_have view all)))

  -- Objects.

  abbrev IsWrite : Write → Type 0
  IsWrite w = IsVal w.value

  module _ (store : Store) (is : StoreInRange store) where
    value_has : (name : Name) (named : List NamedValue) → AllByRecursion (λ s. IsVal s.value) named → SomeHas IsVal (value_under_name name named)
    value_has name [] all = tt
    value_has name (s ∷ ss) all = at (same_name name s.name) (value_has name ss all.1)
      where
        at : (t : Bool) → SomeHas IsVal (value_under_name name ss) → SomeHas IsVal (cond t (Some s.value) (value_under_name name ss))
        at true rest = all.0
        at false rest = rest

    optional_has : (o : Option Value) → is_optional_value o ≡ true → SomeHas IsVal o
    optional_has None is = tt
    optional_has (Some v) is = is

    map_has : (first second : ℕ) (o : Option Value) → SomeHas IsVal o → SomeHas IsWrite (option_map (write_at first second) o)
    map_has first second None has = tt
    map_has first second (Some v) has = has

    with_has : (o : Option Write) (ws : List Write) → SomeHas IsWrite o → AllByRecursion IsWrite ws → AllByRecursion IsWrite (prepend_some o ws)
    with_has None ws has all = all
    with_has (Some w) ws has all = (has, all)

    logged_has : (key : List ℕ) (seq : ℕ) (body : Body) → in_range body ≡ true → SomeHas IsWrite (logged_write_of key seq store.named (logged_write body))
    logged_has key seq (b.Write p i place k here) range = at (bytes_eq key k)
      where
        name : Name
        name = record { path = p; place = place }

        at : (t : Bool) → SomeHas IsWrite (cond t (option_map (write_at seq 0) (here_or_named here name store.named)) None)
        at true =
            map_has seq 0 (here_or_named here name store.named)
            (or_else_has IsVal here (value_under_name name store.named) (optional_has here (and_parts (is_step_id p i && is_u64 place && is_name k) (is_optional_value here) range).1) (value_has name store.named is.named))
        at false = tt
    logged_has key seq _ range = tt

    logged_have : (key : List ℕ) (view : List (Live Body)) → Seen view → AllByRecursion IsWrite (logged_writes key store.named view)
    logged_have key [] all = tt
    logged_have key (x ∷ xs) all = with_has (logged_write_of key x.seq store.named (logged_write x.holds)) (logged_writes key store.named xs) (logged_has key x.seq x.holds all.0.body.range) (logged_have key xs all.1)

    versions_have : (key : List ℕ) (vs : List Version) → AllByRecursion (λ v. IsVal v.value) vs → AllByRecursion IsWrite (version_writes key vs)
    versions_have key [] all = tt
    versions_have key (v ∷ vs) all = at (bytes_eq key v.key) (versions_have key vs all.1)
      where
        at : (t : Bool) → AllByRecursion IsWrite (version_writes key vs) → AllByRecursion IsWrite (cond t (write_at v.cursor v.number v.value ∷ version_writes key vs) (version_writes key vs))
        at true rest = (all.0, rest)
        at false rest = rest

    writes_of_have : (key : List ℕ) (view : List (Live Body)) → Seen view → AllByRecursion IsWrite (writes_of key store view)
    writes_of_have key view all =
        each_append IsWrite (version_writes key store.versions ++ logged_writes key store.named view) (initial_writes key store.initial)
        (each_append IsWrite (version_writes key store.versions) (logged_writes key store.named view) (versions_have key store.versions is.versions) (logged_have key view all))
        (with_has (option_map (write_at 0 0) (get key store.initial)) [] (map_has 0 0 (get key store.initial) (get_has IsVal key store.initial is.initial)) tt)

    later_has : (w : Write) (o : Option Write) → IsWrite w → SomeHas IsWrite o → SomeHas IsWrite (later_write w o)
    later_has w None one has = one
    later_has w (Some v) one has = at (is_below w.first w.second v.first v.second)
      where
        at : (t : Bool) → SomeHas IsWrite (cond t (Some v) (Some w))
        at true = has
        at false = one

    last_has : (c k : ℕ) (ws : List Write) → AllByRecursion IsWrite ws → SomeHas IsWrite (last_write_below c k ws)
    last_has c k [] all = tt
    last_has c k (w ∷ ws) all = at (is_below w.first w.second c k) (last_has c k ws all.1)
      where
        at : (t : Bool) → SomeHas IsWrite (last_write_below c k ws) → SomeHas IsWrite (cond t (later_write w (last_write_below c k ws)) (last_write_below c k ws))
        at true rest = later_has w (last_write_below c k ws) all.0 rest
        at false rest = rest

    read_val : (bound : ℕ) (key : List ℕ) (c k : ℕ) (view : List (Live Body)) → Seen view → IsVal (fenced_value (read_below bound key c k store view))
    read_val bound key c k view all = at (ltb bound store.floor) (last_write_below c k (writes_of key store view)) (last_has c k (writes_of key store view) (writes_of_have key view all))
      where
        at : (t : Bool) (o : Option Write) → SomeHas IsWrite o → IsVal (fenced_value (cond t f.Gone (fenced_answer (option_map (λ w. w.value) o))))
        at true o has = refl
        at false None has = refl
        at false (Some w) has = has

    pub free_val : (key : List ℕ) (cursor : ℕ) (view : List (Live Body)) → Seen view → IsVal (fenced_value (read_free key cursor store view))
    free_val key cursor view all = read_val cursor key (suc cursor) 0 view all

    pub fenced_val : (key : List ℕ) (at : ℕ) (view : List (Live Body)) → Seen view → IsVal (fenced_value (read_fenced key at store view))
    fenced_val key at view all = read_val at key at 0 view all

pub reads_are : (read : List ℕ → Fenced) → ((key : List ℕ) → IsVal (fenced_value (read key))) → (keys : List (List ℕ)) → list_all is_value (read_all read keys) ≡ true
reads_are read all keys = all_of_each is_value (read_all read keys) (at keys)
  where
    at : (keys : List (List ℕ)) → AllByRecursion IsVal (read_all read keys)
    at [] = tt
    at (key ∷ keys) = (all key, at keys)
