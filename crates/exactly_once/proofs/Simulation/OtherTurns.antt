-- The turns of records that are no operations': a request, an Init, a Finish, and those that give no turn.
use Rattle.std.proofs.Common.{◌≡◌, ℕ, suc, false, cond, List, [], ◌∷◌, length, Option, Some, None, refl, sym, ap, ◌∙◌, subst, arith}
use Rattle.std.specs.Prelude.{bytes_eq, option_and_then, unwrap_or, slice_index}
use Rattle.lb_base.specs.declared.value.Tag.{Tag}
use Rattle.lb_base.specs.declared.value.Value.{Value}
use Rattle.lb_base.specs.declared.value.Outcome.{Outcome}
use Rattle.boki_types.specs.declared.body.Body.{Body}
use Rattle.boki_types.specs.declared.body.Body.TheVariants as b
use Rattle.boki_types.specs.declared.operation.Ask.TheVariants as asks
use Rattle.boki_types.specs.declared.plan.Setup.{Setup}
use Rattle.boki_types.specs.declared.program.Function.{Function}
use Rattle.boki_types.specs.Finding.{find}
use Rattle.boki_model.specs.Live.{Live}
use Rattle.boki_model.specs.Bodies.{step_of}
use Rattle.std.specs.Option.{option_or}
use Rattle.boki_model.specs.Maps.{get, put}
use Rattle.boki_model.specs.Writes.{Store, Version, versions_at, logged_write_of, logged_write, last_value_below}
use Rattle.boki_model.specs.Folds.{queues, commits, store_values}
use Rattle.boki_machine.specs.Attempt.{call_in, call_of}
use Rattle.boki_machine.specs.Decided.{InvocationState, with_free_answers, after_record, after_init, after_finish, function_of, args_of}
use Rattle.boki_machine.specs.Turns.{operation_count, turn_of}
use Rattle.boki_machine.specs.Ideal.{Invocation, Ideal, new_invocation, running_invocation, unless_ended, submit_request, with_invocation, perform_many, run_turns}
use Rattle.boki_machine.specs.Ideal as run_turns
use Rattle.boki_model.proofs.KeyMaps.{get-put_same}
use Rattle.exactly_once.specs.Induction.SoundLogs.{Asks, MaySubmit, MayBegin, MayStand, AllMayFollow}
use Rattle.exactly_once.specs.FurtherLaws.Words.{versions_with_cursor, AreConsecutive}
use Rattle.exactly_once.proofs.Log.LiveRecords.{Under}
use Rattle.exactly_once.proofs.Log.MapChanges.{same_itself, get_other}
use Rattle.exactly_once.proofs.LastWrites.ObjectStages.{stage_before, stage_other, stage_end}
use Rattle.exactly_once.proofs.Invocations.NextRecord.{stands, cursor_within, unbegun, uncalled, is_called, still_called, IsCalled}
use Rattle.exactly_once.proofs.Simulation.NextOperations.{AreLast, others_put, by_key, go_start}
use Rattle.exactly_once.proofs.Simulation.FreeOperations.{running_at}
use Rattle.exactly_once.proofs.Simulation.ExpectedState.{open_since, look, look_new, where_begun, frees, expected, Agrees, Next, Valid, frame, Went, step_turn}
use Rattle.exactly_once.proofs.Simulation.OperationTurn.{stands_own, stand_own, others_kept, objects_kept, at_operation, before_own}

module _ (setup : Setup) (fs : List Function) (store : Store) where
  -- the turn of a record is defined, and leads to the state that belongs to the records with it
  pub record Turned (ahead : List (List ℕ × ℕ)) (x : Live Body) (xs : List (Live Body)) (s : Ideal) : Type 0 where
    pub state : Ideal
    pub defined : run_turns fs (turn_of fs ahead (versions_at x.seq store.versions) x.holds) s ≡ Some state
    pub agrees : Agrees setup fs store ahead (suc x.seq) (x ∷ xs) state

  module _ (x : Live Body) (xs : List (Live Body)) (m : ℕ) (is_seq : x.seq ≡ suc m) (under : Under m xs) (none : versions_with_cursor x.seq store.versions ≡ []) where
    -- where no version stands at a record, nothing changes behind it
    pub objects_end : (objects : List (List ℕ × Value)) → AreLast store (x ∷ xs) x.seq 1 objects → AreLast store (x ∷ xs) (suc x.seq) 0 objects
    objects_end objects are key =
        are key ∙ ap (λ (l : List Version). last_value_below key x.seq (suc (length l)) store (x ∷ xs)) (sym none)
        ∙ stage_end store x xs m is_seq under (subst AreConsecutive (sym none) tt) key

    pub objects_quiet : (objects : List (List ℕ × Value)) → ((key : List ℕ) → logged_write_of key x.seq store.named (logged_write x.holds) ≡ None) → AreLast store xs x.seq 0 objects → AreLast store (x ∷ xs) (suc x.seq) 0 objects
    objects_quiet objects no_write are =
        objects_end objects (λ key. are key ∙ stage_before store x xs m is_seq under (subst AreConsecutive (sym none) tt) key ∙ stage_other store x xs m is_seq under (subst AreConsecutive (sym none) tt) key (no_write key))

    -- a record that gives no turn
    pub quiet : (ahead : List (List ℕ × ℕ)) (s : Ideal) → AllMayFollow setup fs store xs → step_of x.holds ≡ None → ((key : List ℕ) → logged_write_of key x.seq store.named (logged_write x.holds) ≡ None) → ((q : List ℕ) → call_in q x.holds ≡ None) → commits (x ∷ xs) ≡ commits xs → queues (x ∷ xs) ≡ queues xs → Agrees setup fs store ahead x.seq xs s → Agrees setup fs store ahead (suc x.seq) (x ∷ xs) s
    quiet ahead s fit no_step no_write no_call cs qs agrees = record {
      objects = objects_quiet s.objects no_write agrees.objects;
      queues_are = agrees.queues_are ∙ sym qs;
      names_are = agrees.names_are ∙ ap store_values (sym cs);
      invocations = λ q. agrees.invocations q
          ∙ sym (frame setup fs store (get q ahead) x xs q (let h = cursor_within setup fs store m xs q under fit in omega (arith, h, is_seq)) (ap (λ o. after_record setup fs store xs q x o (stands setup fs store q xs)) no_step) (no_call q) cs);
    }

  module _ (seq : ℕ) (tags : List Tag) (xs : List (Live Body)) (m : ℕ) (is_seq : seq ≡ suc m) (under : Under m xs) (ahead : List (List ℕ × ℕ)) (s : Ideal) where
    abbrev with_body : Body → Live Body
    with_body body = record { seq = seq; tags = tags; holds = body }

    -- a request
    module _ (p : List ℕ) (name : List ℕ) (args : List Value) (fit : AllMayFollow setup fs store (with_body (b.Submit p name args) ∷ xs)) (agrees : Agrees setup fs store ahead seq xs s) where
      abbrev new_request : Invocation
      new_request = new_invocation (unwrap_or (find name fs) 0) args

      abbrev submission : Live Body
      submission = with_body (b.Submit p name args)

      may_submit : MaySubmit p xs
      may_submit = fit.0

      request_is : expected setup fs store (get p ahead) (submission ∷ xs) p ≡ Some new_request
      request_is =
          look_new setup fs store (get p ahead) (submission ∷ xs) p (record { function = name; args = args }) (uncalled setup fs store xs p fit.2 may_submit.unknown)
          (ap (λ o. option_or o (call_in p (b.Submit p name args))) may_submit.unknown ∙ ap (λ t. cond t (Some (record { function = name; args = args })) None) (same_itself p))

      submit_other : (q : List ℕ) → bytes_eq q p ≡ false → get q (put p new_request s.invocations) ≡ expected setup fs store (get q ahead) (submission ∷ xs) q
      submit_other q e =
          get_other q p new_request s.invocations e ∙ agrees.invocations q
          ∙ sym (frame setup fs store (get q ahead) submission xs q (let h = cursor_within setup fs store m xs q under fit.2 in omega (arith, h, is_seq)) refl (ap (λ t. cond t (Some (record { function = name; args = args })) None) e) refl)

      pub submit_turn : Turned ahead submission xs s
      submit_turn = record {
        state = with_invocation p new_request s;
        defined =
            ap (λ i. option_and_then (run_turns fs []) (submit_request (slice_index p 0) (unwrap_or (find name fs) 0) args s i))
            (ap (λ q. get q s.invocations) (sym may_submit.request) ∙ agrees.invocations p ∙ ap (look fs store (get p ahead) xs p (commits xs) (stands setup fs store p xs)) may_submit.unknown)
            ∙ ap (λ q. Some (with_invocation q new_request s)) (sym may_submit.request);
        agrees = record {
          objects = objects_quiet submission xs m is_seq under fit.1 s.objects (λ key. refl) agrees.objects;
          queues_are = agrees.queues_are;
          names_are = agrees.names_are;
          invocations = by_key p (λ q. expected setup fs store (get q ahead) (submission ∷ xs) q) (put p new_request s.invocations) (get-put_same p new_request s.invocations ∙ sym request_is) submit_other;
        };
      }

    -- an Init
    module _ (p : List ℕ) (fit : AllMayFollow setup fs store (with_body (b.Init p) ∷ xs)) (agrees : Agrees setup fs store (put p 1 ahead) seq xs s) (valid : Valid setup fs store ahead (with_body (b.Init p) ∷ xs)) where
      abbrev init : Live Body
      init = with_body (b.Init p)

      may_begin : MayBegin p (stands setup fs store p xs) xs
      may_begin = fit.0

      abbrev st_begun : InvocationState
      st_begun = after_init setup fs xs seq (call_of p xs)

      before_init : get p s.invocations ≡ Some (running_at st_begun [] None)
      before_init =
          agrees.invocations p
          ∙ look_new setup fs store (get p (put p 1 ahead)) xs p may_begin.call (unbegun setup fs store xs p fit.2 may_begin.new) may_begin.called
          ∙ ap (λ o. Some (new_invocation (function_of fs o) (args_of o))) (sym may_begin.called)

      init_went : Went setup fs store init xs m is_seq under fit ahead (operation_count (get p ahead) 1 0 (versions_at seq store.versions)) p s
      init_went =
          step_turn setup fs store init xs m is_seq under fit ahead p st_begun (stands_own setup fs store init xs p 1 refl) refl refl refl s 1 0 (omega arith)
          (stand_own setup fs store init xs p 1 refl m is_seq under fit ahead s agrees) (valid p)
          (go_start fs store (init ∷ xs) p (λ q. expected setup fs store (get q ahead) (init ∷ xs) q) (queues xs) (store_values (commits xs)) s (running_at st_begun [] None) seq 1 refl
          (record {
            here = before_init;
            others_are = others_kept setup fs store init xs p 1 refl m is_seq under fit ahead s agrees (λ q e. refl) refl;
            objects = objects_kept setup fs store init xs p 1 refl m is_seq under fit ahead s agrees (λ key. refl);
            queues_are = agrees.queues_are;
            names_are = agrees.names_are;
          }))

      pub init_turn : Turned ahead init xs s
      init_turn = let w = init_went in record { state = w.state; defined = ap (option_and_then (run_turns fs [])) w.defined; agrees = w.agrees }

    -- a Finish
    module _ (p : List ℕ) (i : ℕ) (outcome : Outcome) (fit : AllMayFollow setup fs store (with_body (b.Finish p i outcome) ∷ xs)) (agrees : Agrees setup fs store (put p i ahead) seq xs s) (valid : Valid setup fs store ahead (with_body (b.Finish p i outcome) ∷ xs)) where
      abbrev finish : Live Body
      finish = with_body (b.Finish p i outcome)

      may_end : Asks fs store xs p (stands setup fs store p xs) i (asks.Done outcome)
      may_end = fit.0

      abbrev st_ended : InvocationState
      st_ended = after_finish fs store xs p seq outcome i (stands setup fs store p xs)

      is_ended : stands setup fs store p (finish ∷ xs) ≡ st_ended
      is_ended = stands_own setup fs store finish xs p i refl

      -- no version stands at it
      no_version : versions_with_cursor seq store.versions ≡ []
      no_version = subst (λ (st : InvocationState). MayStand fs store (finish ∷ xs) p st st.result st.mode (versions_with_cursor seq store.versions)) is_ended (stand_own setup fs store finish xs p i refl m is_seq under fit ahead s agrees)

      abbrev at_end : Invocation
      at_end = at_operation setup fs store finish xs p i refl m is_seq under fit ahead s agrees may_end.reaches

      abbrev ended_at : Invocation
      ended_at = record at_end { result = Some outcome }

      -- and no step record of the path lies ahead
      none_ahead : (a : Option ℕ) → Next setup fs store a (finish ∷ xs) p st_ended → frees a store st_ended ≡ 0
      none_ahead None next = ap length no_version
      none_ahead (Some j) next = let unended = (next.0 may_end.reaches.begun).unended in let no_way : Some outcome ≡ None = unended in cc

      after_end : expected setup fs store (get p ahead) (finish ∷ xs) p ≡ Some ended_at
      after_end =
          let was : IsCalled setup fs store p xs (stands setup fs store p xs) = is_called setup fs store xs p fit.2 may_end.reaches.begun in
          let next : Next setup fs store (get p ahead) (finish ∷ xs) p st_ended = subst (Next setup fs store (get p ahead) (finish ∷ xs) p) is_ended (valid p) in
          ap (λ st. look fs store (get p ahead) (finish ∷ xs) p (commits xs) st (call_of p (finish ∷ xs))) is_ended
          ∙ ap (look fs store (get p ahead) (finish ∷ xs) p (commits xs) st_ended) (still_called setup fs store p finish xs was.call was.called)
          ∙ ap (λ n. Some (record {
            function = function_of fs (Some was.call);
            args = was.call.args;
            answers = where_begun st_ended.begun (with_free_answers fs store (finish ∷ xs) p st_ended n);
            result = Some outcome;
            transaction = open_since (commits xs) st_ended.transaction;
          })) (none_ahead (get p ahead) next)
          ∙ (λ i. Some (record {
            function = sym was.function_is i;
            args = sym was.args_are i;
            answers = where_begun (may_end.reaches.begun i) st_ended.answers;
            result = Some outcome;
            transaction = open_since (commits xs) st_ended.transaction;
          }))

      pub end_turn : Turned ahead finish xs s
      end_turn = record {
        state = with_invocation p ended_at s;
        defined =
            ap (λ o. option_and_then (run_turns fs []) (option_and_then (λ i. run_turns.end_invocation p i s (run_turns.invocation_ask fs p i)) (option_and_then (λ i. unless_ended i i.result) o)))
            (before_own setup fs store finish xs p i refl m is_seq under fit ahead s agrees may_end.reaches)
            ∙ ap (λ ask. option_and_then (run_turns fs []) (run_turns.end_invocation p at_end s ask)) may_end.asked;
        agrees = record {
          objects = objects_quiet finish xs m is_seq under no_version s.objects (λ key. refl) agrees.objects;
          queues_are = agrees.queues_are;
          names_are = agrees.names_are;
          invocations = by_key p (λ q. expected setup fs store (get q ahead) (finish ∷ xs) q) (put p ended_at s.invocations) (get-put_same p ended_at s.invocations ∙ sym after_end)
              (others_put p (λ q. expected setup fs store (get q ahead) (finish ∷ xs) q) ended_at s.invocations (others_kept setup fs store finish xs p i refl m is_seq under fit ahead s agrees (λ q e. refl) refl));
        };
      }
