-- Operations that are tested before they run.
use Rattle.std.proofs.Common.{◌≡◌, ◌⊎◌, inl, inr, ℕ, zero, suc, ◌+◌, ◌-◌, ◌≤◌, Bool, true, false, cond, leb, List, [], ◌∷◌, ◌++◌, length, Option, Some, None, option_map, refl, sym, ap, ◌∙◌, arith}
use Rattle.std.specs.Prelude.{bytes_eq, option_and_then}
use Rattle.std.proofs.lemmas.Bool.{leb-true}
use Rattle.std.proofs.lemmas.List.{length-append}
use Rattle.lb_base.specs.declared.value.Outcome.{Outcome}
use Rattle.lb_base.specs.declared.value.Mode.{Mode}
use Rattle.lb_base.specs.declared.value.Mode.TheVariants.{R, W}
use Rattle.boki_types.specs.declared.body.Body.{Body}
use Rattle.boki_types.specs.declared.operation.Op.TheVariants as o
use Rattle.boki_types.specs.declared.operation.Ask.{Ask}
use Rattle.boki_types.specs.declared.operation.Ask.TheVariants as k
use Rattle.boki_types.specs.declared.operation.Answer.{Answer}
use Rattle.boki_types.specs.declared.operation.Answer.TheVariants as a
use Rattle.boki_types.specs.declared.program.Function.{Function}
use Rattle.boki_types.specs.declared.turn.Turn.{Turn}
use Rattle.boki_types.specs.declared.turn.Turn.TheVariants as t
use Rattle.boki_model.specs.Live.{Live}
use Rattle.boki_model.specs.Bodies.{child}
use Rattle.boki_model.specs.Folds.{written_names}
use Rattle.boki_model.specs.Maps.{get, put}
use Rattle.boki_model.specs.Writes.{Store}
use Rattle.boki_model.proofs.KeyMaps.{get-put_same}
use Rattle.boki_machine.specs.Decided.{InvocationState, asked_at, free_answer}
use Rattle.boki_machine.specs.Turns.{operation_count}
use Rattle.boki_machine.specs.Ideal.{Invocation, Ideal, running_invocation, unless_ended, perform, end_invocation, perform_next, perform_many, invocation_ask, apply_turn, run_turns}
use Rattle.boki_machine.specs.Ideal as run_turns
use Rattle.exactly_once.proofs.Log.MapChanges.{get_other, keys_cases}
use Rattle.exactly_once.proofs.Invocations.FreeAnswers.{on, IsNext, next_decided}
use Rattle.legal_logs.specs.Legal.{is_free, asked_in, passes, turn_if, go_if, free_operations_ahead}

-- Where a computation with an option gives something, it was given something.

pub record Mapped {A B : Type 0} (f : A → B) (from : Option A) (to : B) : Type 0 where
  pub was : A
  pub is : from ≡ Some was
  pub gives : f was ≡ to

pub mapped : {A B : Type 0} (f : A → B) (from : Option A) (to : B) → option_map f from ≡ Some to → Mapped f from to
mapped f None to e = let no_way : None ≡ Some to = e in cc
mapped f (Some x) to e = record { was = x; is = refl; gives = (let h : Some (f x) ≡ Some to = e in cc) }

pub record Bound {A B : Type 0} (f : A → Option B) (from : Option A) (to : B) : Type 0 where
  pub was : A
  pub is : from ≡ Some was
  pub gives : f was ≡ Some to

pub bound : {A B : Type 0} (f : A → Option B) (from : Option A) (to : B) → option_and_then f from ≡ Some to → Bound f from to
bound f None to e = let no_way : None ≡ Some to = e in cc
bound f (Some x) to e = record { was = x; is = refl; gives = e }

-- How many operations a turn has.

pub until_init : (next : Option ℕ) (n : ℕ) → free_operations_ahead 1 next ≡ Some n → operation_count next 1 0 0 ≡ n
until_init None n e = (let h : Some 0 ≡ Some n = e in cc)
until_init (Some j) n e = at (leb 1 j) e
  where
    at : (t : Bool) → cond t (Some (j - 1)) None ≡ Some n → j - 1 ≡ n
    at true e = (let h : Some (j - 1) ≡ Some n = e in cc)
    at false e = let no_way : None ≡ Some n = e in cc

pub until_own : (next : Option ℕ) (i n : ℕ) → free_operations_ahead (suc i) next ≡ Some n → operation_count next i 1 0 ≡ suc n
until_own None i n e = (let h : Some 0 ≡ Some n = e in let z : 0 ≡ n = cc in ap suc z)
until_own (Some j) i n e = at (leb (suc i) j) refl e
  where
    at : (t : Bool) → leb (suc i) j ≡ t → cond t (Some (j - suc i)) None ≡ Some n → j - i ≡ suc n
    at true le e = (let h : j - suc i ≡ n = cc in let l : suc i ≤ j = leb-true (suc i) j le in omega (arith, h, l))
    at false le e = let no_way : None ≡ Some n = e in cc

-- What passes its test, runs as without it.

module _ (fs : List Function) where
  pub turn_runs : (test : Ask → Bool) (p : List ℕ) (perform_next : Turn) (s s' : Ideal) → turn_if fs test p perform_next s ≡ Some s' → apply_turn fs perform_next s ≡ Some s'
  turn_runs test p perform_next s s' e = at (passes test (asked_in fs p s)) e
    where
      at : (b : Bool) → cond b (apply_turn fs perform_next s) None ≡ Some s' → apply_turn fs perform_next s ≡ Some s'
      at true e = e
      at false e = let no_way : None ≡ Some s' = e in cc

  pub go_one : (p : List ℕ) (s : Ideal) → perform_many fs 1 p s ≡ perform_next fs p s
  go_one p s = at (running_invocation p s) refl
    where
      at : (r : Option Invocation) → running_invocation p s ≡ r → perform_many fs 1 p s ≡ perform_next fs p s
      at None e = ap (λ o. option_and_then (perform_next fs p) (option_map (λ i. s) o)) e ∙ sym (ap (option_and_then (λ i. perform p i s (invocation_ask fs p i))) e)
      at (Some i) e = ap (λ o. option_and_then (perform_next fs p) (option_map (λ i. s) o)) e

  pub go_runs : (tests : ℕ → Ask → Bool) (n : ℕ) (p : List ℕ) (s s' : Ideal) → go_if fs tests n p s ≡ Some s' → perform_many fs n p s ≡ Some s'
  go_runs tests zero p s s' e = e
  go_runs tests (suc n) p s s' e =
      let b = bound (turn_if fs (tests n) p (t.Go p 1)) (go_if fs tests n p s) s' e in
      ap (option_and_then (perform_next fs p)) (go_runs tests n p s b.was b.is) ∙ sym (go_one p b.was) ∙ turn_runs (tests n) p (t.Go p 1) b.was s' b.gives

  -- and what is asked and passes its test, runs
  pub turn_passes : (test : Ask → Bool) (p : List ℕ) (perform_next : Turn) (s : Ideal) (i : Invocation) → running_invocation p s ≡ Some i → passes test (invocation_ask fs p i) ≡ true → turn_if fs test p perform_next s ≡ apply_turn fs perform_next s
  turn_passes test p perform_next s i runs passed =
      ap (λ o. cond (passes test (option_and_then (invocation_ask fs p) o)) (apply_turn fs perform_next s) None) runs
      ∙ ap (λ b. cond b (apply_turn fs perform_next s) None) passed

  -- the first operation alone
  pub go_first : (tests : ℕ → Ask → Bool) (p : List ℕ) (s : Ideal) (i : Invocation) → running_invocation p s ≡ Some i → passes (tests 0) (invocation_ask fs p i) ≡ true → go_if fs tests 1 p s ≡ perform_many fs 1 p s
  go_first tests p s i runs passed =
      ap (λ o. option_and_then (turn_if fs (tests 0) p (t.Go p 1)) (option_map (λ i. s) o)) runs
      ∙ turn_passes (tests 0) p (t.Go p 1) s i runs passed

pub runs_there : (p : List ℕ) (s : Ideal) (i : Invocation) → get p s.invocations ≡ Some i → i.result ≡ None → running_invocation p s ≡ Some i
runs_there p s i here unended = ap (option_and_then (λ i. unless_ended i i.result)) here ∙ ap (unless_ended i) unended

-- Each operation gives its invocation one answer more.

pub record OneMore (p : List ℕ) (i : Invocation) (s' : Ideal) : Type 0 where
  pub next : Invocation
  pub there : get p s'.invocations ≡ Some next
  pub function : next.function ≡ i.function
  pub args : next.args ≡ i.args
  pub answer : Answer
  pub answers : next.answers ≡ answer ∷ i.answers

module _ (p : List ℕ) (i : Invocation) (s' : Ideal) where
  -- by an answer, whatever the transaction and the rest of the state
  answered : (transaction : Option run_turns.Dirty) (answer : Answer) (m : List (List ℕ × Invocation)) → put p (record i { transaction = transaction; answers = answer ∷ i.answers }) m ≡ s'.invocations → OneMore p i s'
  answered transaction answer m e = record {
    next = record i { transaction = transaction; answers = answer ∷ i.answers };
    there = ap (get p) (sym e) ∙ get-put_same p (record i { transaction = transaction; answers = answer ∷ i.answers }) m;
    function = refl;
    args = refl;
    answer = answer;
    answers = refl;
  }

  invocations_of : (s : Ideal) → ◌≡◌ {A = Option Ideal} (Some s) (Some s') → s.invocations ≡ s'.invocations
  invocations_of s e = let same : s ≡ s' = cc in ap (λ (s : Ideal). s.invocations) same

  not_child : (ordinal : ℕ) → bytes_eq p (child p ordinal) ≡ false
  not_child ordinal = at (keys_cases p (child p ordinal))
    where
      at : (p ≡ child p ordinal) ⊎ (bytes_eq p (child p ordinal) ≡ false) → bytes_eq p (child p ordinal) ≡ false
      at (inl same) = absurd (let long = length-append p (ordinal ∷ []) in let e : length p ≡ length (p ++ ordinal ∷ []) = ap length same in let h : ⊥ = omega (arith, long, e) in h)
      at (inr e) = e

  pub operated_answers : (s : Ideal) (ask : Option Ask) → perform p i s ask ≡ Some s' → OneMore p i s'
  operated_answers s (Some (k.Op (o.Read key))) e = answered i.transaction _ s.invocations (invocations_of _ e)
  operated_answers s (Some (k.Op (o.ReadGroup keys))) e = answered i.transaction _ s.invocations (invocations_of _ e)
  operated_answers s (Some (k.Op (o.Write key v))) e = answered i.transaction a.Done s.invocations (invocations_of _ e)
  operated_answers s (Some (k.Op (o.Spawn ordinal f args))) e =
      let own : Invocation = record i { answers = a.Spawned ordinal ∷ i.answers } in
      let perform_next = answered i.transaction (a.Spawned ordinal) s.invocations in
      record {
        next = own;
        there =
            ap (get p) (sym (invocations_of _ e)) ∙ get_other p (child p ordinal) (run_turns.new_invocation f args) (put p own s.invocations) (not_child ordinal)
            ∙ get-put_same p own s.invocations;
        function = refl;
        args = refl;
        answer = a.Spawned ordinal;
        answers = refl;
      }
  operated_answers s (Some (k.Op (o.Join ordinal))) e = at (run_turns.invocation_result (child p ordinal) s) e
    where
      at : (r : Option Outcome) → run_turns.join_child p i r s ≡ Some s' → OneMore p i s'
      at None e = let no_way : None ≡ Some s' = e in cc
      at (Some outcome) e = answered i.transaction (a.Joined outcome) s.invocations (invocations_of _ e)
  operated_answers s (Some (k.Op (o.Push queue v))) e = answered i.transaction a.Done s.invocations (invocations_of _ e)
  operated_answers s (Some (k.Op (o.Pop queue))) e = answered i.transaction _ s.invocations (invocations_of _ e)
  operated_answers s (Some (k.Op (o.Begin names))) e = answered (Some []) _ s.invocations (invocations_of _ e)
  operated_answers s (Some (k.Op (o.Commit names writes))) e = at (run_turns.commit_succeeds names writes i.transaction) e
    where
      at : (good : Bool) → Some (run_turns.after_commit good p i writes s) ≡ Some s' → OneMore p i s'
      at false e = answered None (a.Committed false) s.invocations (invocations_of _ e)
      at true e = answered None (a.Committed true) (run_turns.add_dirty_to_all (written_names writes) s.invocations) (invocations_of _ e)
  operated_answers s (Some (k.Done outcome)) e = let no_way : None ≡ Some s' = e in cc
  operated_answers s None e = let no_way : None ≡ Some s' = e in cc

pub record OneRan (fs : List Function) (p : List ℕ) (s s' : Ideal) : Type 0 where
  pub i : Invocation
  pub here : get p s.invocations ≡ Some i
  pub runs : running_invocation p s ≡ Some i
  pub does : perform p i s (invocation_ask fs p i) ≡ Some s'
  pub more : OneMore p i s'

pub one_ran : (fs : List Function) (p : List ℕ) (s s' : Ideal) → perform_next fs p s ≡ Some s' → OneRan fs p s s'
one_ran fs p s s' e =
    let b = bound (λ i. perform p i s (invocation_ask fs p i)) (running_invocation p s) s' e in
    let w = bound (λ i. unless_ended i i.result) (get p s.invocations) b.was b.is in
    record {
      i = b.was;
      here = w.is ∙ ap Some (at w.was w.was.result w.gives);
      runs = b.is;
      does = b.gives;
      more = operated_answers p b.was s' s (invocation_ask fs p b.was) b.gives;
    }
  where
    at : (i : Invocation) (r : Option Outcome) {j : Invocation} → unless_ended i r ≡ Some j → i ≡ j
    at i None e = cc
    at i (Some outcome) e = cc

-- Free operations that were run, are free by their tests.

free_passes : (store : Store) (xs : List (Live Body)) (c since : ℕ) (mode : Mode) (ask : Option Ask) (answer : Answer) → free_answer store xs c since mode ask ≡ Some answer → passes (is_free mode) ask ≡ true
free_passes store xs c since R (Some (k.Op (o.Read key))) answer e = refl
free_passes store xs c since R (Some (k.Op (o.ReadGroup keys))) answer e = refl
free_passes store xs c since W (Some (k.Op (o.Write key v))) answer e = refl
free_passes store xs c since mode ask answer e = let no_way : None ≡ Some answer = e in cc

module _ (fs : List Function) (store : Store) (xs : List (Live Body)) (p : List ℕ) (st : InvocationState) where
  -- the invocation is the one that stands there, with these answers
  pub record IsIts (l : List Answer) (s : Ideal) : Type 0 where
    pub i : Invocation
    pub here : get p s.invocations ≡ Some i
    pub function : i.function ≡ st.function
    pub args : i.args ≡ st.args
    pub answers : i.answers ≡ l

  -- an execution, beside itself with tests: from the same start each has one operation more at a time
  module _ (at at_if : ℕ → Option Ideal) (more_at : (j : ℕ) → at (suc j) ≡ option_and_then (perform_next fs p) (at j)) (more_if : (j : ℕ) → at_if (suc j) ≡ option_and_then (turn_if fs (is_free st.mode) p (t.Go p 1)) (at_if j)) (start : (s : Ideal) → at 0 ≡ Some s → at_if 0 ≡ Some s) where
    pub walks : (j : ℕ) (s : Ideal) → length (on fs store xs p st j) ≡ j + length st.answers → at j ≡ Some s → IsIts (on fs store xs p st j) s → at_if j ≡ Some s
    walks zero s long is its = start s is
    walks (suc j) s long is its =
        let next : IsNext fs store xs p st j = next_decided fs store xs p st j long in
        let b = bound (perform_next fs p) (at j) s (sym (more_at j) ∙ is) in
        let w : OneRan fs p b.was s = one_ran fs p b.was s b.gives in
        let both : Some w.more.next ≡ Some its.i = sym w.more.there ∙ its.here in
        let same : w.more.next ≡ its.i = cc in
        let function : w.i.function ≡ st.function = sym w.more.function ∙ ap (λ (i : Invocation). i.function) same ∙ its.function in
        let args : w.i.args ≡ st.args = sym w.more.args ∙ ap (λ (i : Invocation). i.args) same ∙ its.args in
        let longer : w.more.answer ∷ w.i.answers ≡ next.answer ∷ on fs store xs p st j = sym w.more.answers ∙ ap (λ (i : Invocation). i.answers) same ∙ its.answers ∙ next.is in
        let answers : w.i.answers ≡ on fs store xs p st j = cc in
        let rest : at_if j ≡ Some b.was = walks j b.was next.before b.is (record { i = w.i; here = w.here; function = function; args = args; answers = answers }) in
        let asked : invocation_ask fs p w.i ≡ asked_at fs p st (on fs store xs p st j) = same_asked w.i function args (on fs store xs p st j) answers in
        let free : passes (is_free st.mode) (invocation_ask fs p w.i) ≡ true =
        ap (passes (is_free st.mode)) asked ∙ free_passes store xs st.cursor j st.mode (asked_at fs p st (on fs store xs p st j)) next.answer next.free in
        more_if j ∙ ap (option_and_then (turn_if fs (is_free st.mode) p (t.Go p 1))) rest
        ∙ turn_passes fs (is_free st.mode) p (t.Go p 1) b.was w.i w.runs free ∙ go_one fs p b.was ∙ b.gives
      where
        same_asked : (i : Invocation) → i.function ≡ st.function → i.args ≡ st.args → (l : List Answer) → i.answers ≡ l → invocation_ask fs p i ≡ asked_at fs p st l
        same_asked i function args l answers =
            (λ n. invocation_ask fs p (record i { function = function n; args = args n; answers = answers n }))
