-- What an attempt does alone, with no record: it answers a free operation, or learns of its next write that its value is stored
-- or that it is late.
use Rattle.std.proofs.Common.{◌≡◌, ⊎_elim, ℕ, suc, ◌-◌, ◌<◌, Bool, true, false, cond, List, ◌∷◌, length, Some, None, refl, sym, ap, ◌∙◌, subst, arith}
use Rattle.std.specs.Prelude.{is_some}
use Rattle.lb_base.specs.declared.value.Value.{Value}
use Rattle.lb_base.specs.declared.value.Mode.TheVariants.{R, W}
use Rattle.boki_types.specs.declared.body.Body.{Body}
use Rattle.boki_types.specs.declared.operation.Op.TheVariants as o
use Rattle.boki_types.specs.declared.operation.Ask.{Ask}
use Rattle.boki_types.specs.declared.operation.Ask.TheVariants as k
use Rattle.boki_types.specs.declared.operation.Answer.{Answer}
use Rattle.boki_types.specs.declared.operation.Answer.TheVariants as a
use Rattle.boki_types.specs.declared.plan.Setup.{Setup}
use Rattle.boki_types.specs.declared.program.Function.{Function}
use Rattle.boki_model.specs.Live.{Live, upto}
use Rattle.boki_model.specs.Writes.{Store, KeyFence, fence, version_value, value_under_name, last_value_below}
use Rattle.boki_machine.specs.Attempt.{Attempt, answered_with}
use Rattle.boki_machine.specs.Decided.{InvocationState, asked_at, with_free_answers, free_answer, add_answer, value_or_none, values_below}
use Rattle.boki_machine.specs.Step.{attempt_ask}
use Rattle.exactly_once.specs.Induction.Invariant.{KnowsStored, KnowsLate, CountsFreeWrites, Follows, IsFollowing}
use Rattle.exactly_once.proofs.Invocations.NextRecord.{stands}

module _ (setup : Setup) (fs : List Function) (store : Store) (fences : List KeyFence) (behind : List (Live Body)) (t : Attempt) (f : Follows setup fs store fences behind t) where
  abbrev st : InvocationState
  st = stands setup fs store t.path behind

  abbrev Asked : Ask → Type 0
  Asked ask = attempt_ask fs t ≡ Some ask

  asked_here : (ask : Ask) → Asked ask → asked_at fs t.path st t.answers ≡ Some ask
  asked_here ask is = (λ i. asked_at fs t.path (record st { function = f.function i; args = f.args i }) t.answers) ∙ is

  -- it knows nothing of its next write where it asks none
  not_stored : (ask : Ask) → Asked ask → ((key : List ℕ) (value : Value) → ask ≡ k.Op (o.Write key value) → ⊥) → t.stored ≡ false
  not_stored ask is none = at t.stored f.stored
    where
      at : (b : Bool) → KnowsStored fs store t.path st t.answers b → b ≡ false
      at false knows = refl
      at true knows = absurd (let same : Some ask ≡ Some (k.Op (o.Write knows.0 knows.1)) = sym (asked_here ask is) ∙ knows.2 in none knows.0 knows.1 (let e : ask ≡ k.Op (o.Write knows.0 knows.1) = cc in e))

  not_late : (ask : Ask) → Asked ask → ((key : List ℕ) (value : Value) → ask ≡ k.Op (o.Write key value) → ⊥) → t.late ≡ false
  not_late ask is none = at t.late f.late
    where
      at : (b : Bool) → KnowsLate fs store fences t.path st t.answers f.free b → b ≡ false
      at false knows = refl
      at true knows = absurd (let same : Some ask ≡ Some (k.Op (o.Write knows.0 knows.1)) = sym (asked_here ask is) ∙ knows.3 in none knows.0 knows.1 (let e : ask ≡ k.Op (o.Write knows.0 knows.1) = cc in e))

  -- one free operation further
  free_follows :
      (answer : Answer) (count : ℕ) → free_answer store behind st.cursor f.free st.mode (asked_at fs t.path st t.answers) ≡ Some answer → CountsFreeWrites t.mode count (suc f.free) → t.stored ≡ false → t.late ≡ false
      → Follows setup fs store fences behind (answered_with (record t { free_writes = count }) answer)
  free_follows answer count free counts no_value in_time =
      let l = with_free_answers fs store behind t.path st f.free in
      let long : length l - length st.answers ≡ f.free = (let e = ap length f.answers in let d = f.decided in omega (arith, e, d)) in
      record {
        begun = f.begun;
        unended = f.unended;
        cursor = f.cursor;
        place = f.place;
        mode = f.mode;
        function = f.function;
        args = f.args;
        transaction = f.transaction;
        fenced = f.fenced;
        free = suc f.free;
        answers =
            ap (λ l. answer ∷ l) f.answers
            ∙ ap (λ o. add_answer o l) (sym free)
            ∙ ap (λ answers. add_answer (free_answer store behind st.cursor f.free st.mode (asked_at fs t.path st answers)) l) f.answers
            ∙ ap (λ since. add_answer (free_answer store behind st.cursor since st.mode (asked_at fs t.path st l)) l) (sym long);
        decided = (let d = f.decided in omega (arith, d));
        counts = counts;
        stored = subst (KnowsStored fs store t.path st (answer ∷ t.answers)) (sym no_value) tt;
        late = subst (KnowsLate fs store fences t.path st (answer ∷ t.answers) (suc f.free)) (sym in_time) tt;
        stored_late = λ e. absurd (let no_way : true ≡ false = sym e ∙ no_value in let h : ⊥ = cc in h);
      }

  -- a read in mode R
  count_R : t.mode ≡ R → CountsFreeWrites t.mode t.free_writes (suc f.free)
  count_R mode = subst (λ m. CountsFreeWrites m t.free_writes (suc f.free)) (sym mode) (let zero_is : CountsFreeWrites R t.free_writes f.free = subst (λ m. CountsFreeWrites m t.free_writes f.free) mode f.counts in zero_is)

  pub read_follows : (key : List ℕ) → Asked (k.Op (o.Read key)) → t.mode ≡ R → Follows setup fs store fences behind (answered_with t (a.Value (value_or_none (last_value_below key (suc t.cursor) 0 store behind))))
  read_follows key is mode =
      let ask = k.Op (o.Read key) in
      free_follows (a.Value (value_or_none (last_value_below key (suc t.cursor) 0 store behind))) t.free_writes
      (λ i. free_answer store behind (f.cursor i) f.free ((f.mode ∙ mode) i) (asked_here ask is i))
      (count_R mode) (not_stored ask is (λ q v e. let no_way : ask ≡ k.Op (o.Write q v) = e in cc)) (not_late ask is (λ q v e. let no_way : ask ≡ k.Op (o.Write q v) = e in cc))

  pub read_all_follows : (keys : List (List ℕ)) → Asked (k.Op (o.ReadGroup keys)) → t.mode ≡ R → Follows setup fs store fences behind (answered_with t (a.Values (values_below (suc t.cursor) 0 store behind keys)))
  read_all_follows keys is mode =
      let ask = k.Op (o.ReadGroup keys) in
      free_follows (a.Values (values_below (suc t.cursor) 0 store behind keys)) t.free_writes
      (λ i. free_answer store behind (f.cursor i) f.free ((f.mode ∙ mode) i) (asked_here ask is i))
      (count_R mode) (not_stored ask is (λ q v e. let no_way : ask ≡ k.Op (o.Write q v) = e in cc)) (not_late ask is (λ q v e. let no_way : ask ≡ k.Op (o.Write q v) = e in cc))

  -- a write in mode W
  module _ (key : List ℕ) (value : Value) (is : Asked (k.Op (o.Write key value))) (mode : t.mode ≡ W) where
    count_W : t.free_writes ≡ f.free
    count_W = subst (λ m. CountsFreeWrites m t.free_writes f.free) mode f.counts

    -- whose version is there
    pub put_follows : t.late ≡ false → is_some (version_value key t.cursor (suc t.free_writes) store.versions) ≡ true → Follows setup fs store fences behind (answered_with (record t { free_writes = suc t.free_writes }) a.Done)
    put_follows in_time there =
        free_follows a.Done (suc t.free_writes)
        ((λ i. free_answer store behind (f.cursor i) (sym count_W i) ((f.mode ∙ mode) i) (asked_here (k.Op (o.Write key value)) is i)) ∙ ap (λ t. cond t (Some a.Done) None) there)
        (subst (λ m. CountsFreeWrites m (suc t.free_writes) (suc f.free)) (sym mode) (ap suc count_W))
        (at t.stored refl) in_time
      where
        at : (b : Bool) → t.stored ≡ b → b ≡ false
        at false e = refl
        at true e = let no_way : false ≡ true = sym in_time ∙ f.stored_late e mode in cc

    -- which is late
    pub late_follows : version_value key t.cursor (suc t.free_writes) store.versions ≡ None → t.cursor < fence key fences → Follows setup fs store fences behind (record t { late = true })
    late_follows none late = record {
      begun = f.begun;
      unended = f.unended;
      cursor = f.cursor;
      place = f.place;
      mode = f.mode;
      function = f.function;
      args = f.args;
      transaction = f.transaction;
      fenced = f.fenced;
      free = f.free;
      answers = f.answers;
      decided = f.decided;
      counts = f.counts;
      stored = f.stored;
      late = (key, value, f.mode ∙ mode, asked_here (k.Op (o.Write key value)) is, (λ i. version_value key (f.cursor i) (suc (sym count_W i)) store.versions) ∙ none, (let c = f.cursor in omega (arith, c, late)));
      stored_late = λ e m. refl;
    }

  -- a logged write whose value is stored
  pub store_follows : (key : List ℕ) (value : Value) → Asked (k.Op (o.Write key value)) → (t.mode ≡ W → t.late ≡ true) → value_under_name (record { path = t.path; place = t.place }) store.named ≡ Some value → Follows setup fs store fences behind (record t { stored = true })
  store_follows key value is late found = record {
    begun = f.begun;
    unended = f.unended;
    cursor = f.cursor;
    place = f.place;
    mode = f.mode;
    function = f.function;
    args = f.args;
    transaction = f.transaction;
    fenced = f.fenced;
    free = f.free;
    answers = f.answers;
    decided = f.decided;
    counts = f.counts;
    stored = (key, value, asked_here (k.Op (o.Write key value)) is, ap (λ place. value_under_name (record { path = t.path; place = place }) store.named) f.place ∙ found);
    late = f.late;
    stored_late = λ e mode. late mode;
  }

-- an attempt that has adopted a record follows
pub not_fresh : (setup : Setup) (fs : List Function) (store : Store) (fences : List KeyFence) (n : ℕ) (now : List (Live Body)) (positions : List ℕ) (t : Attempt) (place : ℕ) → t.place ≡ suc place → IsFollowing setup fs store fences n now positions t → Follows setup fs store fences (upto t.cursor now) t
not_fresh setup fs store fences n now positions t place is f = ⊎_elim (λ fresh. absurd (let e : t.place ≡ 0 = fresh.place in let no_way : ⊥ = omega (arith, e, is) in no_way)) (λ f. f) f.follows
