-- The failure-free state that belongs to the records of a sound log.
use Rattle.std.proofs.Common.{◌≡◌, ℕ, suc, ◌+◌, ◌<◌, Bool, true, false, cond, ltb, List, [], ◌∷◌, ◌++◌, length, Option, Some, None, option_map, refl, sym, ap, ◌∙◌, subst, arith}
use Rattle.lb_base.specs.declared.value.Mode.TheVariants.{W}
use Rattle.boki_types.specs.declared.body.Body.{Body}
use Rattle.boki_types.specs.declared.log.Call.{Call}
use Rattle.boki_types.specs.declared.operation.Answer.{Answer}
use Rattle.boki_types.specs.declared.plan.Setup.{Setup}
use Rattle.boki_types.specs.declared.program.Function.{Function}
use Rattle.boki_model.specs.Live.{Live}
use Rattle.std.specs.Option.{option_or}
use Rattle.boki_model.specs.Maps.{get}
use Rattle.boki_model.specs.Writes.{Store, versions_at}
use Rattle.boki_model.specs.Folds.{Commit, queues, commits, store_values, written_names}
use Rattle.boki_machine.specs.Attempt.{call_in, call_of}
use Rattle.boki_machine.specs.Decided.{InvocationState, not_begun, with_free_answers, function_of}
use Rattle.boki_machine.specs.Turns.{operation_count}
use Rattle.boki_machine.specs.Ideal.{Invocation, Ideal, Dirty, new_invocation, perform_many}
use Rattle.exactly_once.specs.Induction.SoundLogs.{Reaches, free_operations_to, MayStand, AllMayFollow}
use Rattle.exactly_once.specs.FurtherLaws.Words.{versions_with_cursor, AreConsecutive}
use Rattle.exactly_once.proofs.Log.LiveRecords.{Under}
use Rattle.exactly_once.proofs.Invocations.NextRecord.{stands, IsCalled, is_called}
use Rattle.exactly_once.proofs.Invocations.FreeAnswers.{on, more_older, long_reaches, index_is}
use Rattle.exactly_once.proofs.Simulation.NextOperations.{AreLast, Gone, by_key}
use Rattle.exactly_once.proofs.Simulation.FreeOperations.{running_at, stand_numbered, frees_go, last_decided}

-- the names that commits behind a seqnum wrote
abbrev pub dirty_since : ℕ → List Commit → Dirty
dirty_since begin [] = []
dirty_since begin (c ∷ cs) = cond (ltb begin c.seq) (written_names c.writes ++ dirty_since begin cs) (dirty_since begin cs)

abbrev pub open_since : List Commit → Option ℕ → Option Dirty
open_since cs begin = option_map (λ b. dirty_since b cs) begin

-- how many free operations have run behind the last step record, where the next step record has the index, if there is one
abbrev pub frees : Option ℕ → Store → InvocationState → ℕ
frees None store st = versions_at st.cursor store.versions
frees (Some index) store st = free_operations_to index st

abbrev pub where_begun : Bool → List Answer → List Answer
where_begun true l = l
where_begun false l = []

-- an invocation as the failure-free execution has it
abbrev pub look : List Function → Store → Option ℕ → List (Live Body) → List ℕ → List Commit → InvocationState → Option Call → Option Invocation
look fs store a records path cs st None = None
look fs store a records path cs st (Some call) = Some (record {
  function = function_of fs (Some call);
  args = call.args;
  answers = where_begun st.begun (with_free_answers fs store records path st (frees a store st));
  result = st.result;
  transaction = open_since cs st.transaction;
})

module _ (setup : Setup) (fs : List Function) (store : Store) where
  abbrev pub expected : Option ℕ → List (Live Body) → List ℕ → Option Invocation
  expected a xs q = look fs store a xs q (commits xs) (stands setup fs store q xs) (call_of q xs)

  -- the state of the failure-free execution behind these records, where the objects are read below (c, 0)
  pub record Agrees (ahead : List (List ℕ × ℕ)) (c : ℕ) (xs : List (Live Body)) (s : Ideal) : Type 0 where
    pub objects : AreLast store xs c 0 s.objects
    pub queues_are : s.queues ≡ queues xs
    pub names_are : s.names ≡ store_values (commits xs)
    pub invocations : (q : List ℕ) → get q s.invocations ≡ expected (get q ahead) xs q

  -- where a step record of the path lies ahead, its index is what the path comes to
  abbrev pub Next : Option ℕ → List (Live Body) → List ℕ → InvocationState → Type 0
  Next None xs q st = Unit {0}
  Next (Some index) xs q st = (st.begun ≡ true → Reaches fs store xs q st index) × (st.begun ≡ false → index ≡ 1)

  abbrev pub Valid : List (List ℕ × ℕ) → List (Live Body) → Type 0
  Valid ahead xs = (q : List ℕ) → Next (get q ahead) xs q (stands setup fs store q xs)

  -- A record that is not the path's leaves it as it was.

  pub same_call : (q : List ℕ) (x : Live Body) (xs : List (Live Body)) → call_in q x.holds ≡ None → call_of q (x ∷ xs) ≡ call_of q xs
  same_call q x xs none = ap (option_or (call_of q xs)) none ∙ no_other (call_of q xs)
    where
      no_other : (o : Option Call) → option_or o None ≡ o
      no_other None = refl
      no_other (Some c) = refl

  same_look : (a : Option ℕ) (x : Live Body) (xs : List (Live Body)) (q : List ℕ) (cs : List Commit) (st : InvocationState) (call : Option Call) → st.cursor < x.seq → look fs store a (x ∷ xs) q cs st call ≡ look fs store a xs q cs st call
  same_look a x xs q cs st None lt = refl
  same_look a x xs q cs st (Some call) lt =
      ap (λ l. Some (record { function = function_of fs (Some call); args = call.args; answers = where_begun st.begun l; result = st.result; transaction = open_since cs st.transaction }))
      (more_older store x xs fs q st (frees a store st) lt)

  pub frame_with :
      (a : Option ℕ) (x : Live Body) (xs : List (Live Body)) (q : List ℕ) (cs : List Commit) → (stands setup fs store q xs).cursor < x.seq → stands setup fs store q (x ∷ xs) ≡ stands setup fs store q xs
      → call_in q x.holds ≡ None → look fs store a (x ∷ xs) q cs (stands setup fs store q (x ∷ xs)) (call_of q (x ∷ xs)) ≡ look fs store a xs q cs (stands setup fs store q xs) (call_of q xs)
  frame_with a x xs q cs lt is call =
      ap (λ st. look fs store a (x ∷ xs) q cs st (call_of q (x ∷ xs))) is
      ∙ ap (look fs store a (x ∷ xs) q cs (stands setup fs store q xs)) (same_call q x xs call)
      ∙ same_look a x xs q cs (stands setup fs store q xs) (call_of q xs) lt

  pub frame :
      (a : Option ℕ) (x : Live Body) (xs : List (Live Body)) (q : List ℕ) → (stands setup fs store q xs).cursor < x.seq → stands setup fs store q (x ∷ xs) ≡ stands setup fs store q xs
      → call_in q x.holds ≡ None → commits (x ∷ xs) ≡ commits xs → expected a (x ∷ xs) q ≡ expected a xs q
  frame a x xs q lt is call cs =
      ap (λ cs. look fs store a (x ∷ xs) q cs (stands setup fs store q (x ∷ xs)) (call_of q (x ∷ xs))) cs
      ∙ frame_with a x xs q (commits xs) lt is call

  -- an invocation that runs
  pub look_running : (a : Option ℕ) (xs : List (Live Body)) (q : List ℕ) (st : InvocationState) → stands setup fs store q xs ≡ st → AllMayFollow setup fs store xs → st.begun ≡ true → st.result ≡ None → expected a xs q ≡ Some (running_at st (with_free_answers fs store xs q st (frees a store st)) (open_since (commits xs) st.transaction))
  look_running a xs q st is fit begun unended =
      let was : IsCalled setup fs store q xs (stands setup fs store q xs) = is_called setup fs store xs q fit (ap (λ (p : InvocationState). p.begun) is ∙ begun) in
      let by_function : st.function ≡ function_of fs (Some was.call) = ap (λ (p : InvocationState). p.function) (sym is) ∙ was.function_is in
      let by_args : st.args ≡ was.call.args = ap (λ (p : InvocationState). p.args) (sym is) ∙ was.args_are in
      ap (λ st. look fs store a xs q (commits xs) st (call_of q xs)) is
      ∙ ap (look fs store a xs q (commits xs) st) was.called
      ∙ (λ i. Some (record {
        function = sym by_function i;
        args = sym by_args i;
        answers = where_begun (begun i) (with_free_answers fs store xs q st (frees a store st));
        result = unended i;
        transaction = open_since (commits xs) st.transaction;
      }))

  -- one that is called and has not begun
  pub look_new : (a : Option ℕ) (xs : List (Live Body)) (q : List ℕ) (call : Call) → stands setup fs store q xs ≡ not_begun → call_of q xs ≡ Some call → expected a xs q ≡ Some (new_invocation (function_of fs (Some call)) call.args)
  look_new a xs q call is called =
      ap (λ st. look fs store a xs q (commits xs) st (call_of q xs)) is
      ∙ ap (look fs store a xs q (commits xs) not_begun) called

  -- The turn of a step record, once its own operation has run.
  module _ (x : Live Body) (xs : List (Live Body)) (m : ℕ) (is_seq : x.seq ≡ suc m) (under : Under m xs) (fit : AllMayFollow setup fs store (x ∷ xs)) (ahead : List (List ℕ × ℕ)) where
    pub record Went (n : ℕ) (p : List ℕ) (s : Ideal) : Type 0 where
      pub state : Ideal
      pub defined : perform_many fs n p s ≡ Some state
      pub agrees : Agrees ahead (suc x.seq) (x ∷ xs) state

    module _ (p : List ℕ) (st : InvocationState) (is : stands setup fs store p (x ∷ xs) ≡ st) (begun : st.begun ≡ true) (unended : st.result ≡ None) (cursor : st.cursor ≡ x.seq) (s : Ideal) where
      abbrev After : ℕ → List Answer → ℕ → ℕ → Type 0
      After n l c k = Gone fs store (x ∷ xs) p (λ q. expected (get q ahead) (x ∷ xs) q) (queues (x ∷ xs)) (store_values (commits (x ∷ xs))) s n (running_at st l (open_since (commits (x ∷ xs)) st.transaction)) c k

      went : (n : ℕ) → After n (with_free_answers fs store (x ∷ xs) p st (frees (get p ahead) store st)) (suc x.seq) 0 → Went n p s
      went n gone = record {
        state = gone.state;
        defined = gone.defined;
        agrees = record {
          objects = gone.is.objects;
          queues_are = gone.is.queues_are;
          names_are = gone.is.names_are;
          invocations = by_key p (λ q. expected (get q ahead) (x ∷ xs) q) gone.state.invocations (gone.is.here ∙ sym (look_running (get p ahead) (x ∷ xs) p st is fit begun unended)) gone.is.others_are;
        };
      }

      count : (a : Option ℕ) (index own : ℕ) → index + own ≡ suc (length st.answers) → Next a (x ∷ xs) p st → operation_count a index own (versions_at x.seq store.versions) ≡ own + frees a store st
      count None index own e next = ap (λ c. own + versions_at c store.versions) (sym cursor)
      count (Some j) index own e next = let far : j ≡ suc (free_operations_to j st + length st.answers) = index_is fs store (x ∷ xs) p st j (next.0 begun) in omega (arith, e, far)

      long : (a : Option ℕ) → MayStand fs store (x ∷ xs) p st None st.mode (versions_with_cursor x.seq store.versions) → AreConsecutive (versions_with_cursor x.seq store.versions) → Next a (x ∷ xs) p st → length (on fs store (x ∷ xs) p st (frees a store st)) ≡ frees a store st + length st.answers
      long None stand numbered next =
          subst (λ c. length (on fs store (x ∷ xs) p st (versions_at c store.versions)) ≡ versions_at c store.versions + length st.answers) (sym cursor)
          (last_decided fs store x xs m is_seq under numbered p (λ q. expected (get q ahead) (x ∷ xs) q) (queues (x ∷ xs)) (store_values (commits (x ∷ xs))) st cursor (open_since (commits (x ∷ xs)) st.transaction) s 0 st.mode refl stand)
      long (Some j) stand numbered next = long_reaches fs store (x ∷ xs) p st j (next.0 begun)

      all : (a : Option ℕ) → Next a (x ∷ xs) p st → st.mode ≡ W → frees a store st ≡ length (versions_with_cursor x.seq store.versions)
      all None next mode = ap (λ c. versions_at c store.versions) cursor
      all (Some j) next mode = (next.0 begun).all_versions mode ∙ ap (λ c. versions_at c store.versions) cursor

      pub step_turn :
          (index own : ℕ) → index + own ≡ suc (length st.answers) → MayStand fs store (x ∷ xs) p (stands setup fs store p (x ∷ xs)) (stands setup fs store p (x ∷ xs)).result (stands setup fs store p (x ∷ xs)).mode (versions_with_cursor x.seq store.versions)
          → Next (get p ahead) (x ∷ xs) p (stands setup fs store p (x ∷ xs)) → After own st.answers x.seq 1
          → Went (operation_count (get p ahead) index own (versions_at x.seq store.versions)) p s
      step_turn index own e stand next after =
          let numbered = stand_numbered fs store (x ∷ xs) p (stands setup fs store p (x ∷ xs)) (stands setup fs store p (x ∷ xs)).result (stands setup fs store p (x ∷ xs)).mode (versions_with_cursor x.seq store.versions) stand in
          let stand' : MayStand fs store (x ∷ xs) p st None st.mode (versions_with_cursor x.seq store.versions) =
          subst (λ r. MayStand fs store (x ∷ xs) p st r st.mode (versions_with_cursor x.seq store.versions)) unended
          (subst (λ (st : InvocationState). MayStand fs store (x ∷ xs) p st st.result st.mode (versions_with_cursor x.seq store.versions)) is stand) in
          let next' : Next (get p ahead) (x ∷ xs) p st = subst (Next (get p ahead) (x ∷ xs) p) is next in
          subst (λ n. Went n p s) (sym (count (get p ahead) index own e next'))
          (went (own + frees (get p ahead) store st)
          (frees_go fs store x xs m is_seq under numbered p (λ q. expected (get q ahead) (x ∷ xs) q) (queues (x ∷ xs)) (store_values (commits (x ∷ xs))) st cursor (open_since (commits (x ∷ xs)) st.transaction) s own
          st.mode refl stand' (frees (get p ahead) store st) (all (get p ahead) next') (long (get p ahead) stand' numbered next') after))
