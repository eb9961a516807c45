-- Each record that a machine orders is legal behind those before it.
use Rattle.std.proofs.Common.{◌≡◌, ◌⊎◌, inl, inr, ℕ, suc, ◌+◌, ◌-◌, true, false, cond, eqb, ◌&&◌, List, [], ◌∷◌, length, Option, Some, None, option_map, refl, sym, ap, ◌∙◌, subst, arith}
use Rattle.std.specs.Prelude.{bytes_eq, option_and_then, unwrap_or, slice_index, IsTrue}
use Rattle.std.proofs.lemmas.Bool.{le-leb, and_from}
use Rattle.lb_base.specs.declared.value.Tag.{Tag}
use Rattle.lb_base.specs.declared.value.Value.{Value}
use Rattle.lb_base.specs.declared.value.Outcome.{Outcome}
use Rattle.boki_types.specs.declared.body.Body.{Body}
use Rattle.boki_types.specs.declared.body.Body.TheVariants as b
use Rattle.boki_types.specs.declared.operation.Op.{Op}
use Rattle.boki_types.specs.declared.operation.Op.TheVariants as o
use Rattle.boki_types.specs.declared.operation.Ask.{Ask}
use Rattle.boki_types.specs.declared.operation.Ask.TheVariants as k
use Rattle.boki_types.specs.declared.operation.Answer.{Answer}
use Rattle.boki_types.specs.declared.plan.Setup.{Setup}
use Rattle.boki_types.specs.declared.program.Function.{Function}
use Rattle.boki_types.specs.declared.turn.Turn.TheVariants as t
use Rattle.boki_types.specs.Finding.{find}
use Rattle.boki_model.specs.Live.{Live}
use Rattle.std.specs.Option.{option_or}
use Rattle.boki_model.specs.Bodies.{step_of}
use Rattle.boki_model.specs.Maps.{get, put}
use Rattle.boki_model.specs.Modes.{mode_after}
use Rattle.boki_model.specs.Values.{same_value}
use Rattle.boki_model.specs.Writes.{Store, versions_at, value_under_name}
use Rattle.boki_model.specs.Folds.{commits}
use Rattle.boki_model.proofs.KeyMaps.{get-put_same}
use Rattle.boki_machine.specs.Attempt.{call_of}
use Rattle.boki_machine.specs.Decided.{InvocationState, asked_at, add_answer, own_answer, join_answer, after_step_record, after_record, after_operation, after_init, after_finish}
use Rattle.boki_machine.specs.Turns.{operation_count, turn_of, add_next_index}
use Rattle.boki_machine.specs.Ideal.{Invocation, Ideal, running_invocation, perform_many, apply_turn, run_turns, invocation_ask}
use Rattle.exactly_once.specs.Induction.SoundLogs.{Reaches, free_operations_to, Asks, MayWrite, MaySpawn, MayJoin, MayCommit, AllMayFollow}
use Rattle.exactly_once.proofs.Log.LiveRecords.{Under}
use Rattle.exactly_once.proofs.Log.MapChanges.{same_itself, get_other, keys_cases}
use Rattle.exactly_once.proofs.Invocations.NextRecord.{stands}
use Rattle.exactly_once.proofs.Invocations.FreeAnswers.{on, long_reaches, index_is}
use Rattle.exactly_once.proofs.Simulation.FreeOperations.{running_at}
use Rattle.exactly_once.proofs.Simulation.ExpectedState.{frees, open_since, expected, Agrees, Next, Valid, look_running}
use Rattle.exactly_once.proofs.Simulation.OperationTurn.{stands_apart, stands_own, at_operation, before_own}
use Rattle.legal_logs.specs.Legal.{value_agrees, matches_ask, matches_end, passes, go_if, free_operations_ahead, tests_of_init, tests_of, BegunInvocation, Audited, with_state, with_begun, audit_init, audit_operation, audit_finish, audit_record}
use Rattle.legal_logs.specs.Same.{same_names, same_values, same_writes, is_number}
use Rattle.legal_logs.specs.Laws.{request_known}
use Rattle.legal_logs.proofs.Same.{itself, value_itself, outcome_itself, names_itself, values_itself, writes_itself, is_itself}
use Rattle.legal_logs.proofs.LastTurns.{AllQuiet, none_free}
use Rattle.legal_logs.proofs.Tested.{bound, until_init, until_own, turn_passes, go_first, runs_there, walks, IsIts}

-- what the audit keeps of an invocation that stands so
abbrev pub begun_at : InvocationState → BegunInvocation
begun_at st = record { mode = st.mode; transaction = st.transaction }

module _ (setup : Setup) (fs : List Function) (store : Store) where
  -- of each invocation that has begun
  abbrev pub AreKept : List (Live Body) → List (List ℕ × BegunInvocation) → Type 0
  AreKept xs kept = (q : List ℕ) → (stands setup fs store q xs).begun ≡ true → get q kept ≡ Some (begun_at (stands setup fs store q xs))

  -- a record is legal, and the state behind it is this one
  pub record IsAudited (ahead : List (List ℕ × ℕ)) (x : Live Body) (xs : List (Live Body)) (a : Audited) (s' : Ideal) : Type 0 where
    pub next : Audited
    pub legal : audit_record fs setup.mode ahead x.seq xs a x.holds ≡ Some next
    pub state : next.state ≡ s'
    pub kept : AreKept (x ∷ xs) next.begun

  module _ (seq : ℕ) (tags : List Tag) (xs : List (Live Body)) (m : ℕ) (is_seq : seq ≡ suc m) (under : Under m xs) (ahead : List (List ℕ × ℕ)) (a : Audited) (s' : Ideal) (kept : AreKept xs a.begun) where
    abbrev pub holding : Body → Live Body
    holding body = record { seq = seq; tags = tags; holds = body }

    -- what the proof of the machine's execution has
    pub record Goes (body : Body) : Type 0 where
      pub fit : AllMayFollow setup fs store (holding body ∷ xs)
      pub valid : Valid setup fs store ahead (holding body ∷ xs)
      pub quiet : AllQuiet setup fs store ahead (holding body ∷ xs)
      pub before : Agrees setup fs store (add_next_index (step_of body) ahead) seq xs a.state
      pub after : (q : List ℕ) → get q s'.invocations ≡ expected setup fs store (get q ahead) (holding body ∷ xs) q
      pub defined : run_turns fs (turn_of fs ahead (versions_at seq store.versions) body) a.state ≡ Some s'

    -- records that are no step records
    kept_quiet : (body : Body) → step_of body ≡ None → AreKept (holding body ∷ xs) a.begun
    kept_quiet body none q begun =
        let same : stands setup fs store q (holding body ∷ xs) ≡ stands setup fs store q xs = ap (λ o. after_record setup fs store xs q (holding body) o (stands setup fs store q xs)) none in
        kept q (ap (λ (st : InvocationState). st.begun) (sym same) ∙ begun) ∙ ap (λ st. Some (begun_at st)) (sym same)

    quiet_audited : (body : Body) → step_of body ≡ None → audit_record fs setup.mode ahead seq xs a body ≡ Some a → run_turns fs [] a.state ≡ Some s' → IsAudited ahead (holding body) xs a s'
    quiet_audited body none is stays =
        record { next = a; legal = is; state = (let h : Some a.state ≡ Some s' = stays in let same : a.state ≡ s' = cc in same); kept = kept_quiet body none }

    submit_audited : (p name : List ℕ) (args : List Value) → IsTrue (request_known fs (b.Submit p name args)) → Goes (b.Submit p name args) → IsAudited ahead (holding (b.Submit p name args)) xs a s'
    submit_audited p name args known goes = record {
      next = with_state a s';
      legal = ap (λ c. option_map (with_state a) (cond c (apply_turn fs (t.Submit (slice_index p 0) (unwrap_or (find name fs) 0) args) a.state) None)) known ∙ ap (option_map (with_state a)) ran;
      state = refl;
      kept = kept_quiet (b.Submit p name args) refl;
    }
      where
        ran : apply_turn fs (t.Submit (slice_index p 0) (unwrap_or (find name fs) 0) args) a.state ≡ Some s'
        ran =
            let w = bound (run_turns fs []) (apply_turn fs (t.Submit (slice_index p 0) (unwrap_or (find name fs) 0) args) a.state) s' goes.defined in
            let same : w.was ≡ s' = (let h : Some w.was ≡ Some s' = w.gives in cc) in w.is ∙ ap Some same

    -- A step record.
    module _ (body : Body) (p : List ℕ) (i : ℕ) (step : step_of body ≡ Some (p, i)) (goes : Goes body) where
      abbrev x : Live Body
      x = holding body

      abbrev ys : List (Live Body)
      ys = x ∷ xs

      -- what is kept behind it, where the path's own is put in anew
      kept_own : (st : InvocationState) → stands setup fs store p ys ≡ st → AreKept ys (put p (begun_at st) a.begun)
      kept_own st is q begun = at (keys_cases q p)
        where
          at : (q ≡ p) ⊎ (bytes_eq q p ≡ false) → get q (put p (begun_at st) a.begun) ≡ Some (begun_at (stands setup fs store q ys))
          at (inl same) =
              subst (λ q. get q (put p (begun_at st) a.begun) ≡ Some (begun_at (stands setup fs store q ys))) (sym same)
              (get-put_same p (begun_at st) a.begun ∙ ap (λ st. Some (begun_at st)) (sym is))
          at (inr e) =
              let apart = stands_apart setup fs store x xs p i step q e in
              get_other q p (begun_at st) a.begun e ∙ kept q (ap (λ (st : InvocationState). st.begun) (sym apart) ∙ begun) ∙ ap (λ st. Some (begun_at st)) (sym apart)

      module _ (st : InvocationState) (is : stands setup fs store p ys ≡ st) (begun : st.begun ≡ true) (unended : st.result ≡ None) (cursor : st.cursor ≡ seq) where
        -- how many free operations follow
        abbrev free : ℕ
        free = frees (get p ahead) store st

        next_is : Next setup fs store (get p ahead) ys p st
        next_is = subst (Next setup fs store (get p ahead) ys p) is (goes.valid p)

        none_last : get p ahead ≡ None → versions_at seq store.versions ≡ 0
        none_last none = none_free setup fs store x xs ahead p i goes.fit goes.quiet step none

        free_is : (next : Option ℕ) → (next ≡ None → versions_at seq store.versions ≡ 0) → Next setup fs store next ys p st → free_operations_ahead (suc (length st.answers)) next ≡ Some (frees next store st)
        free_is None none next = ap Some (sym (ap (λ c. versions_at c store.versions) cursor ∙ none refl))
        free_is (Some j) none next =
            let far : j ≡ suc (free_operations_to j st + length st.answers) = index_is fs store ys p st j (next.0 begun) in
            ap (λ t. cond t (Some (j - suc (length st.answers))) None) (le-leb (suc (length st.answers)) j (omega (arith, far)))

        free_long : (next : Option ℕ) → (next ≡ None → versions_at seq store.versions ≡ 0) → Next setup fs store next ys p st → length (on fs store ys p st (frees next store st)) ≡ frees next store st + length st.answers
        free_long None none next =
            let zero_is : versions_at st.cursor store.versions ≡ 0 = ap (λ c. versions_at c store.versions) cursor ∙ none refl in
            subst (λ n. length (on fs store ys p st n) ≡ n + length st.answers) (sym zero_is) (omega arith)
        free_long (Some j) none next = long_reaches fs store ys p st j (next.0 begun)

        -- the turn has as many operations with the versions as without
        until_free : (own : ℕ) → operation_count (get p ahead) i own (versions_at seq store.versions) ≡ operation_count (get p ahead) i own 0
        until_free own = at (get p ahead) none_last
          where
            at : (next : Option ℕ) → (next ≡ None → versions_at seq store.versions ≡ 0) → operation_count next i own (versions_at seq store.versions) ≡ operation_count next i own 0
            at None none = ap (operation_count None i own) (none refl)
            at (Some j) none = refl

        ends_there : IsIts fs store ys p st (on fs store ys p st free) s'
        ends_there = record {
          i = running_at st (on fs store ys p st free) (open_since (commits ys) st.transaction);
          here = goes.after p ∙ look_running setup fs store (get p ahead) ys p st is goes.fit begun unended;
          function = refl;
          args = refl;
          answers = refl;
        }

        went : (n : ℕ) → run_turns fs (t.Go p n ∷ []) a.state ≡ Some s' → perform_many fs n p a.state ≡ Some s'
        went n e =
            let w = bound (run_turns fs []) (perform_many fs n p a.state) s' e in
            let same : w.was ≡ s' = (let h : Some w.was ≡ Some s' = w.gives in cc) in w.is ∙ ap Some same

        -- behind an Init
        init_goes : st.answers ≡ [] → i ≡ 1 → run_turns fs (t.Go p (operation_count (get p ahead) 1 0 (versions_at seq store.versions)) ∷ []) a.state ≡ Some s' → option_and_then (λ n. go_if fs (tests_of_init st.mode) n p a.state) (free_operations_ahead 1 (get p ahead)) ≡ Some s'
        init_goes none first defined =
            let counted : free_operations_ahead 1 (get p ahead) ≡ Some free = ap (λ (l : List Answer). free_operations_ahead (suc (length l)) (get p ahead)) (sym none) ∙ free_is (get p ahead) none_last next_is in
            let many : operation_count (get p ahead) 1 0 (versions_at seq store.versions) ≡ free =
            ap (λ i. operation_count (get p ahead) i 0 (versions_at seq store.versions)) (sym first) ∙ until_free 0 ∙ ap (λ i. operation_count (get p ahead) i 0 0) first ∙ until_init (get p ahead) free counted in
            ap (option_and_then (λ n. go_if fs (tests_of_init st.mode) n p a.state)) counted
            ∙ walks fs store ys p st (λ j. perform_many fs j p a.state) (λ j. go_if fs (tests_of_init st.mode) j p a.state) (λ j. refl) (λ j. refl) (λ s e. e)
            free s' (free_long (get p ahead) none_last next_is) (ap (λ n. perform_many fs n p a.state) (sym many) ∙ went (operation_count (get p ahead) 1 0 (versions_at seq store.versions)) defined) ends_there

        -- behind an operation's record
        operation_goes :
            (begin : Option ℕ) (before : Invocation) (ask : Ask) → running_invocation p a.state ≡ Some before → invocation_ask fs p before ≡ Some ask → matches_ask fs begin body ask ≡ true → i ≡ length st.answers
            → run_turns fs (t.Go p (operation_count (get p ahead) i 1 (versions_at seq store.versions)) ∷ []) a.state ≡ Some s'
            → option_and_then (λ n. go_if fs (tests_of fs begin body st.mode) (suc n) p a.state) (free_operations_ahead (suc i) (get p ahead)) ≡ Some s'
        operation_goes begin before ask runs asked named index defined =
            let counted : free_operations_ahead (suc i) (get p ahead) ≡ Some free = ap (λ n. free_operations_ahead (suc n) (get p ahead)) index ∙ free_is (get p ahead) none_last next_is in
            let many : operation_count (get p ahead) i 1 (versions_at seq store.versions) ≡ suc free = until_free 1 ∙ until_own (get p ahead) i free counted in
            ap (option_and_then (λ n. go_if fs (tests_of fs begin body st.mode) (suc n) p a.state)) counted
            ∙ walks fs store ys p st (λ j. perform_many fs (suc j) p a.state) (λ j. go_if fs (tests_of fs begin body st.mode) (suc j) p a.state) (λ j. refl) (λ j. refl)
            (λ s e. go_first fs (tests_of fs begin body st.mode) p a.state before runs (ap (passes (matches_ask fs begin body)) asked ∙ named) ∙ e)
            free s' (free_long (get p ahead) none_last next_is) (ap (λ n. perform_many fs n p a.state) (sym many) ∙ went (operation_count (get p ahead) i 1 (versions_at seq store.versions)) defined) ends_there

      -- an operation's record
      module _ (reaches : Reaches fs store xs p (stands setup fs store p xs) i) where
        abbrev st_before : InvocationState
        st_before = stands setup fs store p xs

        abbrev so_far : List Answer
        so_far = on fs store xs p st_before (free_operations_to i st_before)

        agreed : Agrees setup fs store (put p i ahead) seq xs a.state
        agreed = subst (λ o. Agrees setup fs store (add_next_index o ahead) seq xs a.state) step goes.before

        abbrev its_invocation : Invocation
        its_invocation = at_operation setup fs store x xs p i step m is_seq under goes.fit ahead a.state agreed reaches

        its_runs : running_invocation p a.state ≡ Some its_invocation
        its_runs = runs_there p a.state its_invocation (before_own setup fs store x xs p i step m is_seq under goes.fit ahead a.state agreed reaches) refl

        operation_audited :
            (own : Answer) → own_answer store xs seq body ≡ Some own → (op : Op) → asked_at fs p st_before so_far ≡ Some (k.Op op) → matches_ask fs st_before.transaction body (k.Op op) ≡ true
            → after_step_record setup fs store xs p seq body i st_before ≡ after_operation fs store xs p seq body i st_before
            → turn_of fs ahead (versions_at seq store.versions) body ≡ t.Go p (operation_count (get p ahead) i 1 (versions_at seq store.versions)) ∷ []
            → audit_record fs setup.mode ahead seq xs a body ≡ option_and_then (audit_operation fs ahead seq body (p, i) a) (get p a.begun)
            → IsAudited ahead x xs a s'
        operation_audited own own_is op asked named is_operated turn_is legal_is =
            let st : InvocationState = after_operation fs store xs p seq body i st_before in
            let is : stands setup fs store p ys ≡ st = stands_own setup fs store x xs p i step ∙ is_operated in
            let longer : length st.answers ≡ suc (length so_far) = ap (λ o. length (add_answer o so_far)) own_is in
            let long : length so_far ≡ free_operations_to i st_before + length st_before.answers = long_reaches fs store xs p st_before i reaches in
            let far : i ≡ suc (free_operations_to i st_before + length st_before.answers) = index_is fs store xs p st_before i reaches in
            record {
              next = with_begun a p (begun_at st) s';
              legal =
                  legal_is
                  ∙ ap (option_and_then (audit_operation fs ahead seq body (p, i) a)) (kept p reaches.begun)
                  ∙ ap (option_map (with_begun a p (begun_at st)))
                  (operation_goes st is reaches.begun reaches.unended refl st_before.transaction its_invocation (k.Op op) its_runs asked named (omega (arith, longer, long, far))
                  (ap (λ ts. run_turns fs ts a.state) (sym turn_is) ∙ goes.defined));
              state = refl;
              kept = kept_own st is;
            }

        end_audited :
            (outcome : Outcome) → body ≡ b.Finish p i outcome → asked_at fs p st_before so_far ≡ Some (k.Done outcome)
            → after_step_record setup fs store xs p seq body i st_before ≡ after_finish fs store xs p seq outcome i st_before
            → turn_of fs ahead (versions_at seq store.versions) body ≡ t.End p ∷ []
            → audit_record fs setup.mode ahead seq xs a body ≡ audit_finish fs body p a
            → matches_end body (k.Done outcome) ≡ true
            → IsAudited ahead x xs a s'
        end_audited outcome is_end asked is_finished turn_is legal_is named =
            let is : stands setup fs store p ys ≡ after_finish fs store xs p seq outcome i st_before = stands_own setup fs store x xs p i step ∙ is_finished in
            let w = bound (run_turns fs []) (apply_turn fs (t.End p) a.state) s' (ap (λ ts. run_turns fs ts a.state) (sym turn_is) ∙ goes.defined) in
            let same : w.was ≡ s' = (let h : Some w.was ≡ Some s' = w.gives in cc) in
            record {
              next = with_state a s';
              legal =
                  legal_is
                  ∙ ap (option_map (with_state a)) (turn_passes fs (matches_end body) p (t.End p) a.state its_invocation its_runs (ap (passes (matches_end body)) asked ∙ named) ∙ w.is ∙ ap Some same);
              state = refl;
              kept = λ q begun. at is q begun (keys_cases q p);
            }
          where
            at : stands setup fs store p ys ≡ after_finish fs store xs p seq outcome i st_before → (q : List ℕ) → (stands setup fs store q ys).begun ≡ true → (q ≡ p) ⊎ (bytes_eq q p ≡ false) → get q a.begun ≡ Some (begun_at (stands setup fs store q ys))
            at is q begun (inl same) =
                subst (λ q. get q a.begun ≡ Some (begun_at (stands setup fs store q ys))) (sym same)
                (kept p reaches.begun ∙ ap (λ st. Some (begun_at st)) (sym is))
            at is q begun (inr e) =
                let apart = stands_apart setup fs store x xs p i step q e in
                kept q (ap (λ (st : InvocationState). st.begun) (sym apart) ∙ begun) ∙ ap (λ st. Some (begun_at st)) (sym apart)

      init_audited : body ≡ b.Init p → i ≡ 1 → stands setup fs store p ys ≡ after_init setup fs xs seq (call_of p xs) → turn_of fs ahead (versions_at seq store.versions) body ≡ t.Go p (operation_count (get p ahead) 1 0 (versions_at seq store.versions)) ∷ [] → audit_record fs setup.mode ahead seq xs a body ≡ audit_init fs ahead p (mode_after setup.mode xs) a → IsAudited ahead x xs a s'
      init_audited is_init first is turn_is legal_is =
          let st : InvocationState = after_init setup fs xs seq (call_of p xs) in
          record {
            next = with_begun a p (begun_at st) s';
            legal =
                legal_is
                ∙ ap (option_map (with_begun a p (begun_at st))) (init_goes st is refl refl refl refl first (ap (λ ts. run_turns fs ts a.state) (sym turn_is) ∙ goes.defined));
            state = refl;
            kept = kept_own st is;
          }

    -- Each record, by what it holds.

    abbrev before_it : List ℕ → InvocationState
    before_it p = stands setup fs store p xs

    by_asks :
        (body : Body) (p : List ℕ) (i : ℕ) (step : step_of body ≡ Some (p, i)) (goes : Goes body) (op : Op) (asks : Asks fs store xs p (before_it p) i (k.Op op)) (own : Answer) → own_answer store xs seq body ≡ Some own
        → matches_ask fs (before_it p).transaction body (k.Op op) ≡ true
        → after_step_record setup fs store xs p seq body i (before_it p) ≡ after_operation fs store xs p seq body i (before_it p)
        → turn_of fs ahead (versions_at seq store.versions) body ≡ t.Go p (operation_count (get p ahead) i 1 (versions_at seq store.versions)) ∷ []
        → audit_record fs setup.mode ahead seq xs a body ≡ option_and_then (audit_operation fs ahead seq body (p, i) a) (get p a.begun)
        → IsAudited ahead (holding body) xs a s'
    by_asks body p i step goes op asks own own_is named is_operated turn_is legal_is =
        operation_audited body p i step goes asks.reaches own own_is op asks.asked named is_operated turn_is legal_is

    -- a write has the value that its record holds
    agrees_value : (here : Option Value) (named : Option Value) (value : Value) → option_or here named ≡ Some value → value_agrees here value ≡ true
    agrees_value None named value e = refl
    agrees_value (Some v) named value e = let same : v ≡ value = (let h : Some v ≡ Some value = e in cc) in ap (λ v. same_value v value) same ∙ value_itself value

    pub body_audited : (body : Body) → IsTrue (request_known fs body) → Goes body → IsAudited ahead (holding body) xs a s'
    body_audited (b.Submit p name args) known goes = submit_audited p name args known goes
    body_audited (b.Init p) known goes = init_audited (b.Init p) p 1 refl goes refl refl (stands_own setup fs store (holding (b.Init p)) xs p 1 refl) refl refl
    body_audited (b.Read p i key) known goes = by_asks (b.Read p i key) p i refl goes (o.Read key) goes.fit.0 _ refl (same_itself key) refl refl refl
    body_audited (b.ReadGroup p i keys) known goes = by_asks (b.ReadGroup p i keys) p i refl goes (o.ReadGroup keys) goes.fit.0 _ refl (names_itself keys) refl refl refl
    body_audited (b.Write p i place key here) known goes =
        let may : MayWrite fs store xs p (before_it p) i place key here = goes.fit.0 in
        by_asks (b.Write p i place key here) p i refl goes (o.Write key may.value) may.asks _ refl
        (and_from (bytes_eq key key) (value_agrees here may.value) (same_itself key) (agrees_value here (value_under_name (record { path = p; place = place }) store.named) may.value may.kept)) refl refl refl
    body_audited (b.Spawn p i ordinal name args) known goes =
        let may : MaySpawn fs store xs p (before_it p) i ordinal name args = goes.fit.0 in
        by_asks (b.Spawn p i ordinal name args) p i refl goes (o.Spawn ordinal may.function args) may.asks _ refl
        (and_from (eqb ordinal ordinal && is_number (find name fs) may.function) (same_values args args)
        (and_from (eqb ordinal ordinal) (is_number (find name fs) may.function) (itself ordinal) (is_itself (find name fs) may.function may.found)) (values_itself args)) refl refl refl
    body_audited (b.Join p i ordinal) known goes =
        let may : MayJoin fs store xs p (before_it p) i ordinal = goes.fit.0 in
        by_asks (b.Join p i ordinal) p i refl goes (o.Join ordinal) may.asks _ (ap join_answer may.result) (itself ordinal) refl refl refl
    body_audited (b.Push p i queue value) known goes =
        by_asks (b.Push p i queue value) p i refl goes (o.Push queue value) goes.fit.0 _ refl (and_from (bytes_eq queue queue) (same_value value value) (same_itself queue) (value_itself value)) refl refl refl
    body_audited (b.Pop p i queue) known goes = by_asks (b.Pop p i queue) p i refl goes (o.Pop queue) goes.fit.0 _ refl (same_itself queue) refl refl refl
    body_audited (b.TxnBegin p i names) known goes = by_asks (b.TxnBegin p i names) p i refl goes (o.Begin names) goes.fit.0 _ refl (names_itself names) refl refl refl
    body_audited (b.TxnCommit p i begin names writes) known goes =
        let may : MayCommit fs store xs p (before_it p) i begin names writes = goes.fit.0 in
        by_asks (b.TxnCommit p i begin names writes) p i refl goes (o.Commit names writes) may.asks _ refl
        (and_from (is_number (before_it p).transaction begin && same_names names names) (same_writes writes writes)
        (and_from (is_number (before_it p).transaction begin) (same_names names names) (is_itself (before_it p).transaction begin may.begin_is) (names_itself names)) (writes_itself writes)) refl refl refl
    body_audited (b.Finish p i outcome) known goes =
        let asks : Asks fs store xs p (before_it p) i (k.Done outcome) = goes.fit.0 in
        end_audited (b.Finish p i outcome) p i refl goes asks.reaches outcome refl asks.asked refl refl refl (outcome_itself outcome)
    body_audited (b.SwitchBegin target) known goes = quiet_audited (b.SwitchBegin target) refl refl goes.defined
    body_audited b.SwitchEnd known goes = quiet_audited b.SwitchEnd refl refl goes.defined
    body_audited (b.Trim w) known goes = quiet_audited (b.Trim w) refl refl goes.defined
    body_audited (b.TrimTag number upto) known goes = quiet_audited (b.TrimTag number upto) refl refl goes.defined
    body_audited (b.User bytes) known goes = quiet_audited (b.User bytes) refl refl goes.defined
