-- The turns of the operations' records, but those of transactions.
use Rattle.std.proofs.Common.{◌≡◌, ◌⊎◌, inl, inr, ℕ, suc, false, cond, List, [], ◌∷◌, Option, Some, None, option_map, refl, sym, ap, ◌∙◌, subst}
use Rattle.std.specs.Prelude.{bytes_eq, option_and_then, unwrap_or}
use Rattle.lb_base.specs.declared.value.Tag.{Tag}
use Rattle.lb_base.specs.declared.value.Value.{Value}
use Rattle.boki_types.specs.declared.body.Body.{Body}
use Rattle.boki_types.specs.declared.body.Body.TheVariants as b
use Rattle.boki_types.specs.declared.log.Call.{Call}
use Rattle.boki_types.specs.declared.operation.Op.TheVariants as o
use Rattle.boki_types.specs.declared.operation.Answer.{Answer}
use Rattle.boki_types.specs.declared.operation.Answer.TheVariants as a
use Rattle.boki_types.specs.declared.plan.Setup.{Setup}
use Rattle.boki_types.specs.declared.program.Function.{Function}
use Rattle.boki_model.specs.Live.{Live}
use Rattle.boki_model.specs.Bodies.{child, step_of}
use Rattle.std.specs.Option.{option_or}
use Rattle.boki_model.specs.Maps.{get, put}
use Rattle.boki_model.specs.Modes as modes
use Rattle.boki_model.specs.Writes.{Store, write_at, versions_at, logged_write_of, logged_write, here_or_named, last_value_below}
use Rattle.boki_model.specs.Folds.{queues, commits, store_values, push_queue, pop_queue, front}
use Rattle.boki_machine.specs.Attempt.{call_in, call_of}
use Rattle.boki_machine.specs.Decided.{InvocationState, value_or_none, values_below, join_answer}
use Rattle.boki_machine.specs.Turns.{operation_count}
use Rattle.boki_machine.specs.Ideal.{Invocation, Ideal, new_invocation}
use Rattle.boki_machine.specs.Ideal as ideal
use Rattle.boki_model.proofs.KeyMaps.{get-put_same}
use Rattle.exactly_once.specs.Induction.SoundLogs.{Reaches, MayWrite, MaySpawn, MayJoin, AllMayFollow}
use Rattle.exactly_once.proofs.Log.LiveRecords.{Under}
use Rattle.exactly_once.proofs.Log.MapChanges.{same_itself, get_other, keys_cases, other_way}
use Rattle.exactly_once.proofs.LastWrites.ObjectStages.{stage_before, stage_other, stage_write}
use Rattle.exactly_once.proofs.Invocations.NextRecord.{stands, uncalled, is_called, result_is, IsCalled}
use Rattle.exactly_once.proofs.Simulation.NextOperations.{AreLast, OthersAre, others_put, IsState, objects_below, put_last}
use Rattle.exactly_once.proofs.Simulation.ExpectedState.{look, look_new, expected, Agrees, Valid, Went}
use Rattle.exactly_once.proofs.Simulation.OperationTurn.{stands_apart, numbered_own, others_kept, before_other, frame_other, objects_kept, at_operation, operation_goes}

module _ (setup : Setup) (fs : List Function) (store : Store) where
  -- the failure-free result of an invocation
  pub expected_result : (a : Option ℕ) (xs : List (Live Body)) (q : List ℕ) → AllMayFollow setup fs store xs → option_and_then (λ (i : Invocation). i.result) (expected setup fs store a xs q) ≡ modes.result_of q xs
  expected_result a xs q fit = at (call_of q xs) refl
    where
      at : (call : Option Call) → call_of q xs ≡ call → option_and_then (λ (i : Invocation). i.result) (look fs store a xs q (commits xs) (stands setup fs store q xs) call) ≡ modes.result_of q xs
      at (Some c) e = result_is setup fs store xs q fit
      at None e = sym (ap (λ (st : InvocationState). st.result) (uncalled setup fs store xs q fit e)) ∙ result_is setup fs store xs q fit

module _ (setup : Setup) (fs : List Function) (store : Store) (seq : ℕ) (tags : List Tag) (xs : List (Live Body)) (m : ℕ) (is_seq : seq ≡ suc m) (under : Under m xs) (ahead : List (List ℕ × ℕ)) (s : Ideal) (p : List ℕ) (i : ℕ) (agrees : Agrees setup fs store (put p i ahead) seq xs s) where
  abbrev pub holding : Body → Live Body
  holding body = record { seq = seq; tags = tags; holds = body }

  abbrev pub Turns : (body : Body) → AllMayFollow setup fs store (holding body ∷ xs) → Type 0
  Turns body fit = Valid setup fs store ahead (holding body ∷ xs) → Went setup fs store (holding body) xs m is_seq under fit ahead (operation_count (get p ahead) i 1 (versions_at seq store.versions)) p s

  -- an operation that gives its answer, with these queues
  module _ (body : Body) (step : step_of body ≡ Some (p, i)) (fit : AllMayFollow setup fs store (holding body ∷ xs)) (reaches : Reaches fs store xs p (stands setup fs store p xs) i) where
    abbrev own_of : Invocation
    own_of = at_operation setup fs store (holding body) xs p i step m is_seq under fit ahead s agrees reaches

    abbrev others_now : List ℕ → Option Invocation
    others_now q = expected setup fs store (get q ahead) (holding body ∷ xs) q

    answered_state :
        (answer : Answer) (s' : Ideal) → s'.invocations ≡ s.invocations → ((q : List ℕ) → bytes_eq q p ≡ false → call_in q body ≡ None) → commits (holding body ∷ xs) ≡ commits xs
        → AreLast store (holding body ∷ xs) seq 1 s'.objects → s'.queues ≡ queues (holding body ∷ xs) → s'.names ≡ store_values (commits (holding body ∷ xs))
        → IsState fs store (holding body ∷ xs) p others_now (queues (holding body ∷ xs)) (store_values (commits (holding body ∷ xs)))
        (record own_of { answers = answer ∷ own_of.answers }) seq 1 (ideal.answers p own_of answer s')
    answered_state answer s' same no_call cs objects queues_are names_are = record {
      here = get-put_same p (record own_of { answers = answer ∷ own_of.answers }) s'.invocations;
      others_are = others_put p others_now (record own_of { answers = answer ∷ own_of.answers }) s'.invocations
          (subst (OthersAre p others_now) (sym same) (others_kept setup fs store (holding body) xs p i step m is_seq under fit ahead s agrees no_call cs));
      objects = objects;
      queues_are = queues_are;
      names_are = names_are;
    }

  pub read_turn : (key : List ℕ) (fit : AllMayFollow setup fs store (holding (b.Read p i key) ∷ xs)) → Turns (b.Read p i key) fit
  read_turn key fit valid =
      let x = holding (b.Read p i key) in
      let own : Answer = a.Value (value_or_none (last_value_below key seq 0 store xs)) in
      let before : Invocation = at_operation setup fs store x xs p i refl m is_seq under fit ahead s agrees fit.0.reaches in
      operation_goes setup fs store x xs p i refl m is_seq under fit ahead s agrees fit.0.reaches valid refl own refl (o.Read key) fit.0.asked
      (ideal.answers p before own s)
      (ap (λ v. Some (ideal.answers p before (a.Value (value_or_none v)) s)) (agrees.objects key))
      (answered_state (b.Read p i key) refl fit fit.0.reaches own s refl (λ q e. refl) refl
      (objects_kept setup fs store x xs p i refl m is_seq under fit ahead s agrees (λ key. refl)) agrees.queues_are agrees.names_are)

  pub read_all_turn : (keys : List (List ℕ)) (fit : AllMayFollow setup fs store (holding (b.ReadGroup p i keys) ∷ xs)) → Turns (b.ReadGroup p i keys) fit
  read_all_turn keys fit valid =
      let x = holding (b.ReadGroup p i keys) in
      let own : Answer = a.Values (values_below seq 0 store xs keys) in
      let before : Invocation = at_operation setup fs store x xs p i refl m is_seq under fit ahead s agrees fit.0.reaches in
      operation_goes setup fs store x xs p i refl m is_seq under fit ahead s agrees fit.0.reaches valid refl own refl (o.ReadGroup keys) fit.0.asked
      (ideal.answers p before own s)
      (ap (λ vs. Some (ideal.answers p before (a.Values vs) s)) (objects_below store xs seq s.objects keys agrees.objects))
      (answered_state (b.ReadGroup p i keys) refl fit fit.0.reaches own s refl (λ q e. refl) refl
      (objects_kept setup fs store x xs p i refl m is_seq under fit ahead s agrees (λ key. refl)) agrees.queues_are agrees.names_are)

  pub push_turn : (queue : List ℕ) (value : Value) (fit : AllMayFollow setup fs store (holding (b.Push p i queue value) ∷ xs)) → Turns (b.Push p i queue value) fit
  push_turn queue value fit valid =
      let x = holding (b.Push p i queue value) in
      let before : Invocation = at_operation setup fs store x xs p i refl m is_seq under fit ahead s agrees fit.0.reaches in
      let after : Ideal = record s { queues = push_queue queue value s.queues } in
      operation_goes setup fs store x xs p i refl m is_seq under fit ahead s agrees fit.0.reaches valid refl a.Done refl (o.Push queue value) fit.0.asked
      (ideal.answers p before a.Done after) refl
      (answered_state (b.Push p i queue value) refl fit fit.0.reaches a.Done after refl (λ q e. refl) refl
      (objects_kept setup fs store x xs p i refl m is_seq under fit ahead s agrees (λ key. refl)) (ap (push_queue queue value) agrees.queues_are) agrees.names_are)

  pub pop_turn : (queue : List ℕ) (fit : AllMayFollow setup fs store (holding (b.Pop p i queue) ∷ xs)) → Turns (b.Pop p i queue) fit
  pop_turn queue fit valid =
      let x = holding (b.Pop p i queue) in
      let before : Invocation = at_operation setup fs store x xs p i refl m is_seq under fit ahead s agrees fit.0.reaches in
      let after : Ideal = record s { queues = pop_queue queue s.queues } in
      let own : Answer = a.Value (front queue (queues xs)) in
      operation_goes setup fs store x xs p i refl m is_seq under fit ahead s agrees fit.0.reaches valid refl own refl (o.Pop queue) fit.0.asked
      (ideal.answers p before own after) (ap (λ q. Some (ideal.answers p before (a.Value (front queue q)) after)) agrees.queues_are)
      (answered_state (b.Pop p i queue) refl fit fit.0.reaches own after refl (λ q e. refl) refl
      (objects_kept setup fs store x xs p i refl m is_seq under fit ahead s agrees (λ key. refl)) (ap (pop_queue queue) agrees.queues_are) agrees.names_are)

  pub join_turn : (ordinal : ℕ) (fit : AllMayFollow setup fs store (holding (b.Join p i ordinal) ∷ xs)) → Turns (b.Join p i ordinal) fit
  join_turn ordinal fit valid =
      let x = holding (b.Join p i ordinal) in
      let may : MayJoin fs store xs p (stands setup fs store p xs) i ordinal = fit.0 in
      let before : Invocation = at_operation setup fs store x xs p i refl m is_seq under fit ahead s agrees may.asks.reaches in
      let own : Answer = a.Joined may.outcome in
      let result : ideal.invocation_result (child p ordinal) s ≡ Some may.outcome =
      ap (option_and_then (λ (i : Invocation). i.result)) (agrees.invocations (child p ordinal)) ∙ expected_result setup fs store (get (child p ordinal) (put p i ahead)) xs (child p ordinal) fit.2 ∙ may.result in
      operation_goes setup fs store x xs p i refl m is_seq under fit ahead s agrees may.asks.reaches valid refl own (ap join_answer may.result) (o.Join ordinal) may.asks.asked
      (ideal.answers p before own s) (ap (λ r. ideal.join_child p before r s) result)
      (answered_state (b.Join p i ordinal) refl fit may.asks.reaches own s refl (λ q e. refl) refl
      (objects_kept setup fs store x xs p i refl m is_seq under fit ahead s agrees (λ key. refl)) agrees.queues_are agrees.names_are)

  pub write_turn : (place : ℕ) (key : List ℕ) (here : Option Value) (fit : AllMayFollow setup fs store (holding (b.Write p i place key here) ∷ xs)) → Turns (b.Write p i place key here) fit
  write_turn place key here fit valid =
      let x = holding (b.Write p i place key here) in
      let may : MayWrite fs store xs p (stands setup fs store p xs) i place key here = fit.0 in
      let before : Invocation = at_operation setup fs store x xs p i refl m is_seq under fit ahead s agrees may.asks.reaches in
      let numbered = numbered_own setup fs store x xs p i refl m is_seq under fit ahead s agrees in
      let after : Ideal = record s { objects = put key may.value s.objects } in
      let is : logged_write_of key seq store.named (logged_write x.holds) ≡ Some (write_at seq 0 may.value) =
      ap (λ t. cond t (option_map (write_at seq 0) (here_or_named here (record { path = p; place = place }) store.named)) None) (same_itself key) ∙ ap (option_map (write_at seq 0)) may.kept in
      operation_goes setup fs store x xs p i refl m is_seq under fit ahead s agrees may.asks.reaches valid refl a.Done refl (o.Write key may.value) may.asks.asked
      (ideal.answers p before a.Done after) refl
      (answered_state (b.Write p i place key here) refl fit may.asks.reaches a.Done after refl (λ q e. refl) refl
      (put_last fs store (x ∷ xs) p (λ q. None) [] [] seq 0 key may.value s.objects (λ q. agrees.objects q ∙ stage_before store x xs m is_seq under numbered q)
      (stage_write store x xs m is_seq under numbered key (write_at seq 0 may.value) is)
      (λ q e. stage_other store x xs m is_seq under numbered q (ap (λ t. cond t (option_map (write_at seq 0) (here_or_named here (record { path = p; place = place }) store.named)) None) e)))
      agrees.queues_are agrees.names_are)

  -- a child that is spawned is new
  module _ (ordinal : ℕ) (name : List ℕ) (args : List Value) (fit : AllMayFollow setup fs store (holding (b.Spawn p i ordinal name args) ∷ xs)) where
    abbrev may_spawn : MaySpawn fs store xs p (stands setup fs store p xs) i ordinal name args
    may_spawn = fit.0

    abbrev own_spawned : Invocation
    own_spawned = at_operation setup fs store (holding (b.Spawn p i ordinal name args)) xs p i refl m is_seq under fit ahead s agrees may_spawn.asks.reaches

    not_child : bytes_eq p (child p ordinal) ≡ false
    not_child = at (keys_cases p (child p ordinal))
      where
        at : (p ≡ child p ordinal) ⊎ (bytes_eq p (child p ordinal) ≡ false) → bytes_eq p (child p ordinal) ≡ false
        at (inl same) =
            let was : IsCalled setup fs store p xs (stands setup fs store p xs) = is_called setup fs store xs p fit.2 may_spawn.asks.reaches.begun in
            let none : call_of p xs ≡ None = ap (λ q. call_of q xs) same ∙ may_spawn.unknown in
            let called = was.called in cc
        at (inr e) = e

    child_is : expected setup fs store (get (child p ordinal) ahead) (holding (b.Spawn p i ordinal name args) ∷ xs) (child p ordinal) ≡ Some (new_invocation may_spawn.function args)
    child_is =
        look_new setup fs store (get (child p ordinal) ahead) (holding (b.Spawn p i ordinal name args) ∷ xs) (child p ordinal) (record { function = name; args = args })
        (stands_apart setup fs store (holding (b.Spawn p i ordinal name args)) xs p i refl (child p ordinal) (other_way p (child p ordinal) not_child) ∙ uncalled setup fs store xs (child p ordinal) fit.2 may_spawn.unknown)
        (ap (λ o. option_or o (call_in (child p ordinal) (b.Spawn p i ordinal name args))) may_spawn.unknown ∙ ap (λ t. cond t (Some (record { function = name; args = args })) None) (same_itself (child p ordinal)))
        ∙ ap (λ f. Some (new_invocation (unwrap_or f 0) args)) may_spawn.found

    spawn_others : (before : List (List ℕ × Invocation)) → OthersAre p (λ q. get q s.invocations) before → (q : List ℕ) → bytes_eq q p ≡ false → get q (put (child p ordinal) (new_invocation may_spawn.function args) before) ≡ expected setup fs store (get q ahead) (holding (b.Spawn p i ordinal name args) ∷ xs) q
    spawn_others before same_others q e = at (keys_cases q (child p ordinal))
      where
        at : (q ≡ child p ordinal) ⊎ (bytes_eq q (child p ordinal) ≡ false) → get q (put (child p ordinal) (new_invocation may_spawn.function args) before) ≡ expected setup fs store (get q ahead) (holding (b.Spawn p i ordinal name args) ∷ xs) q
        at (inl same) =
            subst (λ q. get q (put (child p ordinal) (new_invocation may_spawn.function args) before) ≡ expected setup fs store (get q ahead) (holding (b.Spawn p i ordinal name args) ∷ xs) q) (sym same)
            (get-put_same (child p ordinal) (new_invocation may_spawn.function args) before ∙ sym child_is)
        at (inr f) =
            get_other q (child p ordinal) (new_invocation may_spawn.function args) before f ∙ same_others q e
            ∙ before_other setup fs store (holding (b.Spawn p i ordinal name args)) xs p i refl m is_seq under fit ahead s agrees q e
            ∙ sym (frame_other setup fs store (holding (b.Spawn p i ordinal name args)) xs p i refl m is_seq under fit ahead s agrees q e (ap (λ t. cond t (Some (record { function = name; args = args })) None) f) refl)

    pub spawn_turn : Turns (b.Spawn p i ordinal name args) fit
    spawn_turn valid =
        operation_goes setup fs store (holding (b.Spawn p i ordinal name args)) xs p i refl m is_seq under fit ahead s agrees may_spawn.asks.reaches valid refl (a.Spawned ordinal) refl (o.Spawn ordinal may_spawn.function args) may_spawn.asks.asked
        (ideal.with_invocation (child p ordinal) (new_invocation may_spawn.function args) (ideal.answers p own_spawned (a.Spawned ordinal) s)) refl
        (record {
          here = get_other p (child p ordinal) (new_invocation may_spawn.function args) (put p (record own_spawned { answers = a.Spawned ordinal ∷ own_spawned.answers }) s.invocations) not_child
              ∙ get-put_same p (record own_spawned { answers = a.Spawned ordinal ∷ own_spawned.answers }) s.invocations;
          others_are = spawn_others (put p (record own_spawned { answers = a.Spawned ordinal ∷ own_spawned.answers }) s.invocations) (others_put p (λ q. get q s.invocations) (record own_spawned { answers = a.Spawned ordinal ∷ own_spawned.answers }) s.invocations (λ q e. refl));
          objects = objects_kept setup fs store (holding (b.Spawn p i ordinal name args)) xs p i refl m is_seq under fit ahead s agrees (λ key. refl);
          queues_are = agrees.queues_are;
          names_are = agrees.names_are;
        })
