-- The maps of a report, and those of the failure-free state, by their keys.
use Rattle.std.proofs.Common.{◌≡◌, ◌⊎◌, inl, inr, ℕ, suc, Bool, true, false, cond, ltb, is_lt, is_eq, List, [], ◌∷◌, length, Option, Some, None, Ordering, option_map, refl, sym, ap, ◌∙◌, arith}
use Rattle.std.specs.Prelude.{bytes_eq, option_and_then}
use Rattle.std.specs.declared.cmp.Ordering.TheVariants.{Less, Equal, Greater}
use Rattle.std.specs.List.{AllByRecursion}
use Rattle.std.specs.FinMap.Entries.{below_all, is_sorted}
use Rattle.std.proofs.lemmas.Bool.{and_parts, and_from, ltb-false}
use Rattle.lb_base.specs.declared.value.Value.{Value}
use Rattle.lb_base.specs.declared.value.Value.TheVariants.{Nothing}
use Rattle.lb_base.specs.declared.value.Outcome.{Outcome}
use Rattle.boki_types.specs.declared.body.Body.{Body}
use Rattle.boki_types.specs.declared.body.Body.TheVariants as b
use Rattle.boki_types.specs.declared.store.Name.{Name}
use Rattle.boki_model.specs.Live.{Live}
use Rattle.std.specs.Option.{option_or}
use Rattle.boki_model.specs.Maps.{key_order, get, put}
use Rattle.boki_model.specs.MapLaws.{InOrder}
use Rattle.boki_model.specs.Modes as modes
use Rattle.boki_model.specs.Writes.{Store, NamedValue, Version, Write, write_at, here_or_named, logged_write_of, logged_write, add_key, initial_keys, logged_key, logged_keys_below, version_keys_below, keys_below, is_below, last_write_below, writes_of, last_value_below}
use Rattle.boki_model.proofs.KeyMaps.{put_in_order, same_answers}
use Rattle.boki_types.specs.declared.program.Function.{Function}
use Rattle.boki_model.specs.Folds.{queues, commits, store_values}
use Rattle.boki_machine.specs.Ideal.{Invocation, Ideal, run_turns, initial_ideal, invocation_result}
use Rattle.boki_machine.specs.Reports.{objects, results, add_result, add_first_result, add_value, last_values, add_outcome, ideal_results}
use Rattle.boki_machine.specs.Machine.{Machine, log, live_records}
use Rattle.boki_machine.specs.Turns.{turns}
use Rattle.exactly_once.specs.Induction.SoundLogsRun.{RunsFailureFree}
use Rattle.exactly_once.specs.Induction.ReportsAgree.{IsReported, ReportsAgree}
use Rattle.exactly_once.proofs.Simulation.SoundLogsRun.{sound_runs}
use Rattle.exactly_once.proofs.Simulation.MapsInOrder.{IsOrdered, is_ordered}
use Rattle.exactly_once.proofs.Log.MapChanges.{same_itself, keys_cases, get-put, get_first}
use Rattle.exactly_once.proofs.LastWrites.LastBelow.{not_below_zero}
use Rattle.exactly_once.proofs.LastWrites.WritePositions.{each_write, logged_stands, StandsAt}

pub less_apart : (o : Ordering) → is_lt o ≡ true → is_eq o ≡ false
less_apart Less e = refl
less_apart Equal e = cc
less_apart Greater e = refl

-- a key below all others is not found among them
not_found : {V : Type 0} (k : List ℕ) (m : List (List ℕ × V)) → below_all key_order k m ≡ true → get k m ≡ None
not_found k [] below = refl
not_found k (x ∷ m) below =
    let parts = and_parts (is_lt (key_order k x.0)) (below_all key_order k m) below in
    ap (λ t. cond t (Some x.1) (get k m)) (less_apart (key_order k x.0) parts.0) ∙ not_found k m parts.1

-- The entries of a map of which a function gives a value.

abbrev with_pair : {V : Type 0} → List ℕ → Option V → List (List ℕ × V) → List (List ℕ × V)
with_pair k None m = m
with_pair k (Some v) m = (k, v) ∷ m

module _ {X V : Type 0} (f : List ℕ × X → Option V) where
  abbrev picked : List (List ℕ × X) → List (List ℕ × V)
  picked [] = []
  picked (x ∷ xs) = with_pair x.0 (f x) (picked xs)

  below_picked : (k : List ℕ) (m : List (List ℕ × X)) → below_all key_order k m ≡ true → below_all key_order k (picked m) ≡ true
  below_picked k [] below = refl
  below_picked k (x ∷ m) below = let parts = and_parts (is_lt (key_order k x.0)) (below_all key_order k m) below in at (f x) parts.0 (below_picked k m parts.1)
    where
      at : (o : Option V) → is_lt (key_order k x.0) ≡ true → below_all key_order k (picked m) ≡ true → below_all key_order k (with_pair x.0 o (picked m)) ≡ true
      at None lt rest = rest
      at (Some v) lt rest = and_from (is_lt (key_order k x.0)) (below_all key_order k (picked m)) lt rest

  picked_in_order : (m : List (List ℕ × X)) → InOrder m → InOrder (picked m)
  picked_in_order [] is = refl
  picked_in_order (x ∷ m) is = let parts = and_parts (below_all key_order x.0 m) (is_sorted key_order m) is in at (f x) (below_picked x.0 m parts.0) (picked_in_order m parts.1)
    where
      at : (o : Option V) → below_all key_order x.0 (picked m) ≡ true → InOrder (picked m) → InOrder (with_pair x.0 o (picked m))
      at None below rest = rest
      at (Some v) below rest = and_from (below_all key_order x.0 (picked m)) (is_sorted key_order (picked m)) below rest

  get_picked : (q : List ℕ) (m : List (List ℕ × X)) → InOrder m → get q (picked m) ≡ option_and_then (λ v. f (q, v)) (get q m)
  get_picked q [] is = refl
  get_picked q (x ∷ m) is = let parts = and_parts (below_all key_order x.0 m) (is_sorted key_order m) is in at (keys_cases q x.0) (f x) refl (not_found x.0 m parts.0) (get_picked q m parts.1)
    where
      at : (q ≡ x.0) ⊎ (bytes_eq q x.0 ≡ false) → (o : Option V) → f x ≡ o → get x.0 m ≡ None → get q (picked m) ≡ option_and_then (λ v. f (q, v)) (get q m) → get q (with_pair x.0 o (picked m)) ≡ option_and_then (λ v. f (q, v)) (get q (x ∷ m))
      at (inr e) None is none rest = rest ∙ ap (option_and_then (λ v. f (q, v))) (sym (get_first q x m ∙ ap (λ t. cond t (Some x.1) (get q m)) e))
      at (inr e) (Some v) is none rest =
          get_first q (x.0, v) (picked m) ∙ ap (λ t. cond t (Some v) (get q (picked m))) e ∙ rest
          ∙ ap (option_and_then (λ v. f (q, v))) (sym (get_first q x m ∙ ap (λ t. cond t (Some x.1) (get q m)) e))
      at (inl same) o is none rest = here o is ∙ sym (ap (option_and_then (λ v. f (q, v))) (get_first q x m ∙ ap (λ t. cond t (Some x.1) (get q m)) (ap (λ k. bytes_eq k x.0) same ∙ same_itself x.0)) ∙ ap (λ k. f (k, x.1)) same)
        where
          here : (o : Option V) → f x ≡ o → get q (with_pair x.0 o (picked m)) ≡ f x
          here None is = rest ∙ ap (option_and_then (λ v. f (q, v))) (ap (λ k. get k m) same ∙ none) ∙ sym is
          here (Some v) is = get_first q (x.0, v) (picked m) ∙ ap (λ t. cond t (Some v) (get q (picked m))) (ap (λ k. bytes_eq k x.0) same ∙ same_itself x.0) ∙ sym is

-- Objects: the keys of a report are those of the writes.

put_absent : {V : Type 0} (q k : List ℕ) (v : V) (m : List (List ℕ × V)) → get q (put k v m) ≡ None → (bytes_eq q k ≡ false) × (get q m ≡ None)
put_absent q k v m none = at (bytes_eq q k) refl (sym (get-put q k v m) ∙ none)
  where
    at : (t : Bool) → bytes_eq q k ≡ t → cond t (Some v) (get q m) ≡ None → (bytes_eq q k ≡ false) × (get q m ≡ None)
    at true e none = cc
    at false e none = (e, none)

initial_absent : (q : List ℕ) (xs : List (List ℕ × Value)) → get q (initial_keys xs) ≡ None → get q xs ≡ None
initial_absent q [] none = refl
initial_absent q (x ∷ xs) none =
    let parts = put_absent q x.0 Nothing (initial_keys xs) none in
    get_first q x xs ∙ ap (λ t. cond t (Some x.1) (get q xs)) parts.0 ∙ initial_absent q xs parts.1

module _ (q : List ℕ) (n : ℕ) where
  abbrev NotBelow : Write → Type 0
  NotBelow w = is_below w.first w.second n 0 ≡ false

  versions_absent : (vs : List Version) (keys : List (List ℕ × Value)) → get q (version_keys_below n vs keys) ≡ None → AllByRecursion (λ v. bytes_eq q v.key ≡ true → NotBelow (write_at v.cursor v.number v.value)) vs × (get q keys ≡ None)
  versions_absent [] keys none = (tt, none)
  versions_absent (v ∷ vs) keys none = at (versions_absent vs keys) (ltb v.cursor n) refl none
    where
      at :
          (get q (version_keys_below n vs keys) ≡ None → AllByRecursion (λ v. bytes_eq q v.key ≡ true → NotBelow (write_at v.cursor v.number v.value)) vs × (get q keys ≡ None))
          → (t : Bool) → ltb v.cursor n ≡ t → get q (cond t (add_key v.key (version_keys_below n vs keys)) (version_keys_below n vs keys)) ≡ None
          → ((bytes_eq q v.key ≡ true → NotBelow (write_at v.cursor v.number v.value)) × AllByRecursion (λ v. bytes_eq q v.key ≡ true → NotBelow (write_at v.cursor v.number v.value)) vs) × (get q keys ≡ None)
      at rest true e none =
          let parts = put_absent q v.key Nothing (version_keys_below n vs keys) none in
          let r = rest parts.1 in ((λ same. absurd (let other = parts.0 in let no_way : ⊥ = cc in no_way), r.0), r.1)
      at rest false e none = let r = rest none in ((λ same. not_below_zero v.cursor v.number n (ltb-false v.cursor n e), r.0), r.1)

  logged_absent :
      (named : List NamedValue) (xs : List (Live Body)) (keys : List (List ℕ × Value)) → get q (logged_keys_below n xs keys) ≡ None
      → AllByRecursion (λ x. (w : Write) → logged_write_of q x.seq named (logged_write x.holds) ≡ Some w → NotBelow w) xs × (get q keys ≡ None)
  logged_absent named [] keys none = (tt, none)
  logged_absent named (x ∷ xs) keys none = at (logged_absent named xs keys) (ltb x.seq n) refl (logged_write x.holds) refl none
    where
      not_here : ltb x.seq n ≡ false → (w : Write) → logged_write_of q x.seq named (logged_write x.holds) ≡ Some w → NotBelow w
      not_here e w is =
          let stands : StandsAt x.seq w = logged_stands q x.seq named (logged_write x.holds) w is in
          not_below_zero w.first w.second n (let le = ltb-false x.seq n e in omega (arith, le, stands.first_is))

      none_there : (o : Option (List ℕ × (Name × Option Value))) → logged_write x.holds ≡ o → logged_write_of q x.seq named o ≡ None → (w : Write) → logged_write_of q x.seq named (logged_write x.holds) ≡ Some w → NotBelow w
      none_there o is none w e = let no_way : None ≡ Some w = sym none ∙ ap (logged_write_of q x.seq named) (sym is) ∙ e in cc

      at :
          (get q (logged_keys_below n xs keys) ≡ None → AllByRecursion (λ x. (w : Write) → logged_write_of q x.seq named (logged_write x.holds) ≡ Some w → NotBelow w) xs × (get q keys ≡ None))
          → (t : Bool) → ltb x.seq n ≡ t → (o : Option (List ℕ × (Name × Option Value))) → logged_write x.holds ≡ o → get q (logged_key t o (logged_keys_below n xs keys)) ≡ None
          → (((w : Write) → logged_write_of q x.seq named (logged_write x.holds) ≡ Some w → NotBelow w) × AllByRecursion (λ x. (w : Write) → logged_write_of q x.seq named (logged_write x.holds) ≡ Some w → NotBelow w) xs) × (get q keys ≡ None)
      at rest true e None is none = let r = rest none in ((none_there None is refl, r.0), r.1)
      at rest true e (Some l) is none =
          let parts = put_absent q l.0 Nothing (logged_keys_below n xs keys) none in
          let r = rest parts.1 in ((none_there (Some l) is (ap (λ t. cond t (option_map (write_at x.seq 0) (here_or_named l.1.1 l.1.0 named)) None) parts.0), r.0), r.1)
      at rest false e o is none = let r = rest none in ((not_here e, r.0), r.1)

  -- a key that isn't among them has no write
  no_last : (store : Store) (xs : List (Live Body)) → get q (keys_below n store xs) ≡ None → last_value_below q n 0 store xs ≡ None
  no_last store xs none =
      let versions = versions_absent store.versions (logged_keys_below n xs (initial_keys store.initial)) none in
      let logged = logged_absent store.named xs (initial_keys store.initial) versions.1 in
      let initial = initial_absent q store.initial logged.1 in
      ap (option_map (λ (w : Write). w.value)) (nothing (writes_of q store xs) (each_write NotBelow q store xs versions.0 logged.0 (λ v e. let no_way : None ≡ Some v = sym initial ∙ e in cc)))
    where
      nothing : (ws : List Write) → AllByRecursion NotBelow ws → last_write_below n 0 ws ≡ None
      nothing [] all = refl
      nothing (w ∷ ws) all = rw all.0 (nothing ws all.1)

pub keys_in_order : (n : ℕ) (store : Store) (xs : List (Live Body)) → InOrder (keys_below n store xs)
keys_in_order n store xs = versions store.versions
  where
    initial : (m : List (List ℕ × Value)) → InOrder (initial_keys m)
    initial [] = refl
    initial (x ∷ m) = put_in_order x.0 Nothing (initial_keys m) (initial m)

    one : (t : Bool) (o : Option (List ℕ × (Name × Option Value))) (keys : List (List ℕ × Value)) → InOrder keys → InOrder (logged_key t o keys)
    one true (Some w) keys is = put_in_order w.0 Nothing keys is
    one true None keys is = is
    one false o keys is = is

    logged : (ys : List (Live Body)) → InOrder (logged_keys_below n ys (initial_keys store.initial))
    logged [] = initial store.initial
    logged (y ∷ ys) = one (ltb y.seq n) (logged_write y.holds) (logged_keys_below n ys (initial_keys store.initial)) (logged ys)

    versions : (vs : List Version) → InOrder (version_keys_below n vs (logged_keys_below n xs (initial_keys store.initial)))
    versions [] = logged xs
    versions (v ∷ vs) = at (ltb v.cursor n) (versions vs)
      where
        at : (t : Bool) → InOrder (version_keys_below n vs (logged_keys_below n xs (initial_keys store.initial))) → InOrder (cond t (add_key v.key (version_keys_below n vs (logged_keys_below n xs (initial_keys store.initial)))) (version_keys_below n vs (logged_keys_below n xs (initial_keys store.initial))))
        at true is = put_in_order v.key Nothing (version_keys_below n vs (logged_keys_below n xs (initial_keys store.initial))) is
        at false is = is

last_picked : (n : ℕ) (store : Store) (xs : List (Live Body)) (keys : List (List ℕ × Value)) → last_values n store xs keys ≡ picked (λ x. last_value_below x.0 n 0 store xs) keys
last_picked n store xs [] = refl
last_picked n store xs (x ∷ keys) = at (last_value_below x.0 n 0 store xs) ∙ ap (with_pair x.0 (last_value_below x.0 n 0 store xs)) (last_picked n store xs keys)
  where
    at : (o : Option Value) → add_value x.0 o (last_values n store xs keys) ≡ with_pair x.0 o (last_values n store xs keys)
    at None = refl
    at (Some v) = refl

-- a map of objects that has the last write of each key is that of the report
pub objects_same : (n : ℕ) (store : Store) (xs : List (Live Body)) (m : List (List ℕ × Value)) → InOrder m → ((q : List ℕ) → get q m ≡ last_value_below q n 0 store xs) → m ≡ objects n store xs
objects_same n store xs m is are =
    same_answers m (picked f keys) is (picked_in_order f keys (keys_in_order n store xs)) (λ q. are q ∙ sym (get_picked f q keys (keys_in_order n store xs) ∙ at q (get q keys) refl))
    ∙ sym (last_picked n store xs keys)
  where
    keys : List (List ℕ × Value)
    keys = keys_below n store xs

    f : List ℕ × Value → Option Value
    f x = last_value_below x.0 n 0 store xs

    at : (q : List ℕ) (o : Option Value) → get q (keys_below n store xs) ≡ o → option_and_then (λ v. last_value_below q n 0 store xs) o ≡ last_value_below q n 0 store xs
    at q None e = sym (no_last q n store xs e)
    at q (Some v) e = refl

-- Results.

results_in_order : (xs : List (Live Body)) → InOrder (results xs)
results_in_order [] = refl
results_in_order (x ∷ xs) = at x.holds (results_in_order xs)
  where
    new : (p : List ℕ) (outcome : Outcome) (m : List (List ℕ × Outcome)) (o : Option Outcome) → InOrder m → InOrder (add_first_result p outcome m o)
    new p outcome m None is = put_in_order p outcome m is
    new p outcome m (Some first) is = is

    at : (body : Body) → InOrder (results xs) → InOrder (add_result body (results xs))
    at (b.Finish p i outcome) is = new p outcome (results xs) (get p (results xs)) is
    at _ is = is

results_by_key : (xs : List (Live Body)) (q : List ℕ) → get q (results xs) ≡ modes.result_of q xs
results_by_key [] q = refl
results_by_key (x ∷ xs) q = at x.holds (results_by_key xs)
  where
    no_other : (o : Option Outcome) → o ≡ option_or o None
    no_other None = refl
    no_other (Some r) = refl

    new :
        (p : List ℕ) (outcome : Outcome) (o : Option Outcome) → get p (results xs) ≡ o → ((q : List ℕ) → get q (results xs) ≡ modes.result_of q xs)
        → get q (add_first_result p outcome (results xs) o) ≡ option_or (modes.result_of q xs) (cond (bytes_eq q p) (Some outcome) None)
    new p outcome None e rest = by_key (keys_cases q p)
      where
        by_key : (q ≡ p) ⊎ (bytes_eq q p ≡ false) → get q (put p outcome (results xs)) ≡ option_or (modes.result_of q xs) (cond (bytes_eq q p) (Some outcome) None)
        by_key (inr f) = get-put q p outcome (results xs) ∙ ap (λ t. cond t (Some outcome) (get q (results xs))) f ∙ rest q ∙ no_other (modes.result_of q xs) ∙ ap (λ t. option_or (modes.result_of q xs) (cond t (Some outcome) None)) (sym f)
        by_key (inl same) =
            let t : bytes_eq q p ≡ true = ap (λ k. bytes_eq k p) same ∙ same_itself p in
            let none : modes.result_of q xs ≡ None = sym (rest q) ∙ ap (λ k. get k (results xs)) same ∙ e in
            get-put q p outcome (results xs) ∙ ap (λ t. cond t (Some outcome) (get q (results xs))) t
            ∙ sym (ap (λ o. option_or o (cond (bytes_eq q p) (Some outcome) None)) none ∙ ap (λ t. cond t (Some outcome) None) t)
    new p outcome (Some first) e rest = by_key (keys_cases q p)
      where
        by_key : (q ≡ p) ⊎ (bytes_eq q p ≡ false) → get q (results xs) ≡ option_or (modes.result_of q xs) (cond (bytes_eq q p) (Some outcome) None)
        by_key (inr f) = rest q ∙ no_other (modes.result_of q xs) ∙ ap (λ t. option_or (modes.result_of q xs) (cond t (Some outcome) None)) (sym f)
        by_key (inl same) =
            let some : modes.result_of q xs ≡ Some first = sym (rest q) ∙ ap (λ k. get k (results xs)) same ∙ e in
            rest q ∙ some ∙ sym (ap (λ o. option_or o (cond (bytes_eq q p) (Some outcome) None)) some)

    at : (body : Body) → ((q : List ℕ) → get q (results xs) ≡ modes.result_of q xs) → get q (add_result body (results xs)) ≡ option_or (modes.result_of q xs) (modes.finish_of q body)
    at (b.Finish p i outcome) rest = new p outcome (get p (results xs)) refl rest
    at _ rest = rest q ∙ no_other (modes.result_of q xs)

result_picked : (m : List (List ℕ × Invocation)) → ideal_results m ≡ picked (λ x. x.1.result) m
result_picked [] = refl
result_picked (x ∷ m) = at x.1.result ∙ ap (with_pair x.0 x.1.result) (result_picked m)
  where
    at : (o : Option Outcome) → add_outcome x.0 o (ideal_results m) ≡ with_pair x.0 o (ideal_results m)
    at None = refl
    at (Some v) = refl

-- invocations whose results are those of the log have the results of the report
pub results_same : (xs : List (Live Body)) (s : Ideal) → InOrder s.invocations → ((q : List ℕ) → invocation_result q s ≡ modes.result_of q xs) → ideal_results s.invocations ≡ results xs
results_same xs s is are =
    result_picked s.invocations
    ∙ same_answers (picked (λ (x : List ℕ × Invocation). x.1.result) s.invocations) (results xs) (picked_in_order (λ (x : List ℕ × Invocation). x.1.result) s.invocations is) (results_in_order xs)
    (λ q. get_picked (λ (x : List ℕ × Invocation). x.1.result) q s.invocations is ∙ are q ∙ sym (results_by_key xs q))

-- a failure-free state that has what the log and the store say has the report of the machine
pub reported_from :
    (fs : List Function) (m : Machine) (state : Ideal) → run_turns fs (turns fs m.store.versions (live_records m)) (initial_ideal m.store.initial) ≡ Some state
    → ((key : List ℕ) → get key state.objects ≡ last_value_below key (suc (length (log m))) 0 m.store (live_records m)) → ((path : List ℕ) → invocation_result path state ≡ modes.result_of path (live_records m))
    → state.queues ≡ queues (live_records m) → state.names ≡ store_values (commits (live_records m)) → IsReported fs m
reported_from fs m state defined by_key by_path by_queues by_names =
    let ordered : IsOrdered state = is_ordered fs (turns fs m.store.versions (live_records m)) m.store.initial state defined in
    let by_results = results_same (live_records m) state ordered.invocations by_path in
    let by_objects = objects_same (suc (length (log m))) m.store (live_records m) state.objects ordered.objects by_key in
    record {
      state = state;
      defined = defined;
      reported = λ i. record { turns = turns fs m.store.versions (live_records m); results = by_results i; objects = by_objects i; queues = by_queues i; stores = by_names i };
    }

pub reports_agree : ReportsAgree
reports_agree setup fs m sound =
    let runs : RunsFailureFree fs m.store (suc (length (log m))) (live_records m) = sound_runs setup fs m.store (log m) sound in
    reported_from fs m runs.state runs.defined runs.objects runs.results runs.queues_are runs.names
