-- What is told, and what is kept then.
use Rattle.std.proofs.Common.{◌≡◌, ℕ, suc, ◌-◌, ◌≤◌, min, Bool, true, false, cond, leb, List, [], ◌∷◌, ◌++◌, length, drop, Option, Some, None, option_and_then, Result, Ok, Err, OnErr, IfOk, bytes_eq, refl, sym, ap, subst, ◌∙◌, arith}
use Rattle.std.specs.List.{AllByRecursion}
use Rattle.std.proofs.lemmas.Bool.{le-leb}
use Rattle.lru.specs.LruCache.{LruCache}
use Rattle.lb_base.specs.declared.value.Value.{Value}
use Rattle.boki_types.specs.declared.body.Body.{Body}
use Rattle.boki_types.specs.declared.body.Body.TheVariants as b
use Rattle.boki_model.specs.Live.{LogRecord, Live, live, upto}
use Rattle.boki_model.specs.Order.{order}
use Rattle.boki_model.specs.LogLaws.{FallBelow}
use Rattle.boki_model.specs.Writes.{prepend_some}
use Rattle.boki_model.specs.Folds.{queue_in, queues, front_of}
use Rattle.boki_model.proofs.Logs.{live_falls}
use Rattle.exactly_once.proofs.Log.MapChanges.{same_itself}
use Rattle.log_folds.specs.Bounds.{record_at, seen_at}
use Rattle.log_folds.proofs.ByTag.{are_oldest}
use Rattle.log_folds.proofs.UpTo.{upto_more, seen_of_falling}
use Rattle.book_api.specs.Books.{BookState, position}
use Rattle.step_log.specs.Sound.{bodies, live_bodies, view}
use Rattle.fold_cache.specs.Kept.{KeptState, kept_state, with_state}
use Rattle.fold_cache.proofs.Kept.{all_with_state}
use Rattle.fold_cache.proofs.Found.{below_among, is_recorded, view_falls}
use Rattle.boki_queue.specs.declared.shared.Row.{Row}
use Rattle.boki_queue.specs.declared.shared.Window.{Window}
use Rattle.boki_queue.specs.QueueStates.{queue_of, popped_of, queue_at, popped_at, values_at, QueueState, queue_state, IsQueueFold, AreQueueFolds, with_queue, IsQueueTold, IsPopTold}
use Rattle.boki_queue.specs.Shared.{row_at, window_values, state_of, IsState, WindowsStay, kept_states, IsSound}
use Rattle.boki_queue.specs.Walks.{changed_by}
use Rattle.boki_queue.proofs.Folding.{changed_one}
use Rattle.boki_queue.proofs.Kept.{kept_stay}

-- A pop.

pops : (q : List ℕ) (body : Body) (vs : List Value) → popped_of body ≡ Some q → changed_by q body vs ≡ drop 1 vs
pops q (b.Pop p i r) vs is =
    let same : r ≡ q = cc in
    ap (λ t. cond t (drop 1 vs) vs) (ap (bytes_eq q) same ∙ same_itself q)
pops q _ vs is = cc

of_pop : (q : List ℕ) (body : Body) → popped_of body ≡ Some q → queue_of body ≡ Some q
of_pop q (b.Pop p i r) is = is
of_pop q _ is = cc

pub pop_of_queue : (q : List ℕ) (seq : ℕ) (xs : List (Live Body)) → popped_at seq xs ≡ Some q → queue_at seq xs ≡ Some q
pop_of_queue q seq xs is = at (record_at seq xs) is
  where
    at :
        (o : Option (Live Body)) → option_and_then (λ (x : Live Body). popped_of x.holds) o ≡ Some q
        → option_and_then (λ (x : Live Body). queue_of x.holds) o ≡ Some q
    at None is = cc
    at (Some x) is = of_pop q x.holds is

module _ (q : List ℕ) (seq end : ℕ) (xs : List (Live Body)) (fall : FallBelow end xs) where
  one_up : (n : ℕ) (x : Live Body) → suc n ≡ seq → record_at seq xs ≡ Some x → upto seq xs ≡ x ∷ upto n xs
  one_up n x is there =
      ap (λ m. upto m xs) (sym is)
      ∙ upto_more n end xs fall
      ∙ ap (λ o. prepend_some o (upto n xs)) (ap (λ m. record_at m xs) is ∙ there)

  pub popped_is : popped_at seq xs ≡ Some q → values_at q seq xs ≡ drop 1 (values_at q (seq - 1) xs)
  popped_is is = at (record_at seq xs) refl is
    where
      at :
          (o : Option (Live Body)) → record_at seq xs ≡ o → option_and_then (λ (x : Live Body). popped_of x.holds) o ≡ Some q
          → values_at q seq xs ≡ drop 1 (values_at q (seq - 1) xs)
      at None there is = cc
      at (Some x) there is =
          let recorded = is_recorded seq x xs there in
          let low = below_among end x xs fall recorded.among in
          let seqnum = recorded.seqnum in
          ap (λ l. queue_in q (queues l)) (one_up (seq - 1) x (let some = low.0 in omega arith) there)
          ∙ changed_one q x.holds (queues (upto (seq - 1) xs))
          ∙ pops q x.holds (values_at q (seq - 1) xs) is

-- What is told is what is kept.
module _ (book : BookState) (engine : ℕ) (q : List ℕ) (seq : ℕ) (rows new : List Row) (cache after : LruCache ℕ Window) where
  kept_is : (w : Window) → IsSound rows cache → WindowsStay rows new → IsState new q (values_at q seq (view book engine)) w
      → kept_states new after ≡ with_queue seq (state_of new w) (kept_states new cache)
      → kept_states new after ≡ with_queue seq (queue_state q seq (view book engine)) (kept_states rows cache)
  kept_is w whole stay state is =
      is
      ∙ ap (λ n. with_queue seq (record { queue = n; values = window_values new w }) (kept_states new cache)) state.queue
      ∙ ap (λ vs. with_queue seq (record { queue = q; values = vs }) (kept_states new cache)) state.values
      ∙ ap (with_queue seq (queue_state q seq (view book engine))) (kept_stay rows new stay cache whole)

  pub queue_is_told : (w : Window) (told : List Value) → IsSound rows cache → WindowsStay rows new → IsState new q (values_at q seq (view book engine)) w
      → told ≡ window_values new w → kept_states new after ≡ with_queue seq (state_of new w) (kept_states new cache)
      → IsQueueTold q seq (view book engine) (kept_states rows cache) (kept_states new after) told
  queue_is_told w told whole stay state values is = record { values = values ∙ state.values; kept = kept_is w whole stay state is }

  pub pop_is_told : (w next : Window) (told : Value) → IsSound rows cache → WindowsStay rows new → popped_at seq (view book engine) ≡ Some q
      → IsState new q (values_at q (seq - 1) (view book engine)) w → told ≡ front_of (window_values new w)
      → IsState new (row_at new w.row).queue (drop 1 (window_values new w)) next → kept_states new after ≡ with_queue seq (state_of new next) (kept_states new cache)
      → IsPopTold q seq (view book engine) (kept_states rows cache) (kept_states new after) told
  pop_is_told w next told whole stay pop state value popped is = record {
    value = value ∙ ap front_of state.values;
    kept = kept_is next whole stay (record {
      within = popped.within;
      queue = popped.queue ∙ state.queue;
      values = popped.values ∙ ap (drop 1) state.values ∙ sym (popped_is q seq (suc (position book engine)) (view book engine) (view_falls book engine) pop);
    }) is;
  }

-- What is kept are folds again.
record_up : (p seq : ℕ) (x : Live Body) (end : ℕ) (xs : List (Live Body)) → FallBelow end xs → record_at seq (upto p xs) ≡ Some x → record_at seq xs ≡ Some x
record_up p seq x end xs fall is = at (record_at seq xs) (sym ((seen_of_falling end p xs fall).stands seq) ∙ is)
  where
    seen : (y : Live Body) (t : Bool) → cond t (Some y) None ≡ Some x → Some y ≡ Some x
    seen y true is = is
    seen y false is = cc

    at : (o : Option (Live Body)) → option_and_then (seen_at p) o ≡ Some x → o ≡ Some x
    at None is = cc
    at (Some y) is = seen y (leb y.seq p) is

record_down : (p : ℕ) (x : Live Body) (end : ℕ) (xs : List (Live Body)) → FallBelow end xs → x.seq ≤ p → record_at x.seq xs ≡ Some x → record_at x.seq (upto p xs) ≡ Some x
record_down p x end xs fall le is =
    (seen_of_falling end p xs fall).stands x.seq
    ∙ ap (option_and_then (seen_at p)) is
    ∙ ap (λ t. cond t (Some x) None) (le-leb x.seq p le)

of_record : (q : List ℕ) (seq : ℕ) (xs : List (Live Body)) → queue_at seq xs ≡ Some q → (x : Live Body) × (record_at seq xs ≡ Some x)
of_record q seq xs is = at (record_at seq xs) is
  where
    at : (o : Option (Live Body)) → option_and_then (λ (x : Live Body). queue_of x.holds) o ≡ Some q → (x : Live Body) × (o ≡ Some x)
    at None is = cc
    at (Some x) is = (x, refl)

abbrev told_of : Option (Live Body) → Option (List ℕ)
told_of o = option_and_then (λ (x : Live Body). queue_of x.holds) o

pub told_is_fold : (book : BookState) (engine : ℕ) (q : List ℕ) (seq : ℕ) → queue_at seq (view book engine) ≡ Some q
    → IsQueueFold (live_bodies book) (kept_state seq (queue_state q seq (view book engine)))
told_is_fold book engine q seq is =
    let log = order (bodies book) book.vectors in
    let end = suc (length log) in
    let falls = live_falls log in
    let there = of_record q seq (view book engine) is in
    let x = there.0 in
    let recorded = is_recorded seq x (view book engine) there.1 in
    let low = below_among (suc (position book engine)) x (view book engine) (view_falls book engine) recorded.among in
    let seqnum = recorded.seqnum in
    record {
      queue = ap told_of (record_up (position book engine) seq x end (live_bodies book) falls there.1) ∙ sym (ap told_of there.1) ∙ is;
      values =
          ap (λ l. queue_in q (queues l)) ((seen_of_falling end (position book engine) (live_bodies book) falls).less seq
          ∙ ap (λ n. upto n (live_bodies book)) (let e : min seq (position book engine) ≡ seq = let within = low.1 in omega arith in e));
    }

with_folds : (book : BookState) (engine : ℕ) (q : List ℕ) (seq : ℕ) (states : List (KeptState QueueState)) → queue_at seq (view book engine) ≡ Some q
    → AreQueueFolds states (live_bodies book) → AreQueueFolds (with_queue seq (queue_state q seq (view book engine)) states) (live_bodies book)
with_folds book engine q seq states is folds = at (leb (length (values_at q seq (view book engine))) 4096)
  where
    at : (t : Bool) → AllByRecursion (IsQueueFold (live_bodies book)) (cond t (with_state seq (queue_state q seq (view book engine)) states) states)
    at true = all_with_state (IsQueueFold (live_bodies book)) seq (queue_state q seq (view book engine)) states folds (told_is_fold book engine q seq is)
    at false = folds

pub folds_after_queue : {E : Type 0} (result : Result (List Value) E) (book : BookState) (engine : ℕ) (q : List ℕ) (seq : ℕ) (old new : List (KeptState QueueState))
    → queue_at seq (view book engine) ≡ Some q → AreQueueFolds old (live_bodies book) → IfOk result (IsQueueTold q seq (view book engine) old new) → OnErr result (new ≡ old)
    → AreQueueFolds new (live_bodies book)
folds_after_queue (Ok told) book engine q seq old new is folds ok err = subst (λ l. AreQueueFolds l (live_bodies book)) (sym ok.kept) (with_folds book engine q seq old is folds)
folds_after_queue (Err e) book engine q seq old new is folds ok err = subst (λ l. AreQueueFolds l (live_bodies book)) (sym err) folds

pub folds_after_pop : {E : Type 0} (result : Result Value E) (book : BookState) (engine : ℕ) (q : List ℕ) (seq : ℕ) (old new : List (KeptState QueueState))
    → popped_at seq (view book engine) ≡ Some q → AreQueueFolds old (live_bodies book) → IfOk result (IsPopTold q seq (view book engine) old new) → OnErr result (new ≡ old)
    → AreQueueFolds new (live_bodies book)
folds_after_pop (Ok told) book engine q seq old new is folds ok err =
    subst (λ l. AreQueueFolds l (live_bodies book)) (sym ok.kept) (with_folds book engine q seq old (pop_of_queue q seq (view book engine) is) folds)
folds_after_pop (Err e) book engine q seq old new is folds ok err = subst (λ l. AreQueueFolds l (live_bodies book)) (sym err) folds

-- Folds stay.
fold_stays : (news log : List (LogRecord Body)) (x : KeptState QueueState) → IsQueueFold (live log) x → IsQueueFold (live (news ++ log)) x
fold_stays news log x is =
    let there = of_record x.state.queue x.seq (live log) is.queue in
    let y = there.0 in
    let recorded = is_recorded x.seq y (live log) there.1 in
    let low = below_among (suc (length log)) y (live log) (live_falls log) recorded.among in
    let seqnum = recorded.seqnum in
    let le : x.seq ≤ length log = let within = low.1 in omega arith in
    let same = (are_oldest log x.seq).still_seen news le in
    let here : record_at y.seq (live log) ≡ Some y = ap (λ n. record_at n (live log)) seqnum ∙ there.1 in
    let down = record_down x.seq y (suc (length log)) (live log) (live_falls log) (omega arith) here in
    let up = record_up x.seq y.seq y (suc (length (news ++ log))) (live (news ++ log)) (live_falls (news ++ log)) (ap (record_at y.seq) same ∙ down) in
    record {
      queue = ap told_of (ap (λ n. record_at n (live (news ++ log))) (sym seqnum) ∙ up) ∙ sym (ap told_of there.1) ∙ is.queue;
      values = is.values ∙ ap (λ l. queue_in x.state.queue (queues l)) (sym same);
    }

pub folds_stay : (states : List (KeptState QueueState)) (news log : List (LogRecord Body)) → AreQueueFolds states (live log) → AreQueueFolds states (live (news ++ log))
folds_stay [] news log folds = tt
folds_stay (x ∷ xs) news log folds = (fold_stays news log x folds.0, folds_stay xs news log folds.1)
