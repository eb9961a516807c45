-- The turn of an operation's record: the operation answers as the record says, and then the free operations run.
use Rattle.std.proofs.Common.{◌≡◌, ℕ, suc, ◌+◌, false, cond, List, ◌∷◌, length, Option, Some, None, refl, sym, ap, ◌∙◌, subst, arith}
use Rattle.std.specs.Prelude.{bytes_eq}
use Rattle.boki_types.specs.declared.body.Body.{Body}
use Rattle.boki_types.specs.declared.operation.Op.{Op}
use Rattle.boki_types.specs.declared.operation.Ask.TheVariants as asks
use Rattle.boki_types.specs.declared.operation.Answer.{Answer}
use Rattle.boki_types.specs.declared.plan.Setup.{Setup}
use Rattle.boki_types.specs.declared.program.Function.{Function}
use Rattle.boki_model.specs.Live.{Live}
use Rattle.boki_model.specs.Bodies.{step_of}
use Rattle.boki_model.specs.Maps.{get, put}
use Rattle.boki_model.specs.Writes.{Store, versions_at, logged_write_of, logged_write}
use Rattle.boki_model.specs.Folds.{queues, commits, store_values}
use Rattle.boki_machine.specs.Attempt.{call_in}
use Rattle.boki_machine.specs.Decided.{InvocationState, asked_at, own_answer, add_answer, after_step_record, after_record, after_operation}
use Rattle.boki_machine.specs.Turns.{operation_count}
use Rattle.boki_machine.specs.Ideal.{Invocation, Ideal, invocation_ask}
use Rattle.boki_machine.specs.Ideal as ideal
use Rattle.boki_model.proofs.KeyMaps.{get-put_same}
use Rattle.exactly_once.specs.Induction.SoundLogs.{Reaches, free_operations_to, MayStand, StandAt, AllMayFollow}
use Rattle.exactly_once.specs.FurtherLaws.Words.{versions_with_cursor, AreConsecutive}
use Rattle.exactly_once.proofs.Log.LiveRecords.{Under}
use Rattle.exactly_once.proofs.Log.MapChanges.{same_itself, get_other}
use Rattle.exactly_once.proofs.LastWrites.ObjectStages.{stage_before, stage_other}
use Rattle.exactly_once.proofs.Invocations.NextRecord.{stands, cursor_within}
use Rattle.exactly_once.proofs.Invocations.FreeAnswers.{on, long_reaches, index_is}
use Rattle.exactly_once.proofs.Simulation.NextOperations.{AreLast, OthersAre, IsState, Gone, go_one}
use Rattle.exactly_once.proofs.Simulation.FreeOperations.{running_at, stand_numbered}
use Rattle.exactly_once.proofs.Simulation.ExpectedState.{open_since, expected, Agrees, Valid, frame, look_running, Went, step_turn}

module _ (setup : Setup) (fs : List Function) (store : Store) (x : Live Body) (xs : List (Live Body)) (p : List ℕ) (i : ℕ) (step : step_of x.holds ≡ Some (p, i)) where
  pub stands_apart : (q : List ℕ) → bytes_eq q p ≡ false → stands setup fs store q (x ∷ xs) ≡ stands setup fs store q xs
  stands_apart q e =
      ap (λ o. after_record setup fs store xs q x o (stands setup fs store q xs)) step
      ∙ ap (λ t. cond t (after_step_record setup fs store xs q x.seq x.holds i (stands setup fs store q xs)) (stands setup fs store q xs)) e

  pub stands_own : stands setup fs store p (x ∷ xs) ≡ after_step_record setup fs store xs p x.seq x.holds i (stands setup fs store p xs)
  stands_own =
      ap (λ o. after_record setup fs store xs p x o (stands setup fs store p xs)) step
      ∙ ap (λ t. cond t (after_step_record setup fs store xs p x.seq x.holds i (stands setup fs store p xs)) (stands setup fs store p xs)) (same_itself p)

  module _ (m : ℕ) (is_seq : x.seq ≡ suc m) (under : Under m xs) (fit : AllMayFollow setup fs store (x ∷ xs)) (ahead : List (List ℕ × ℕ)) (s : Ideal) (agrees : Agrees setup fs store (put p i ahead) x.seq xs s) where
    pub stand_own : MayStand fs store (x ∷ xs) p (stands setup fs store p (x ∷ xs)) (stands setup fs store p (x ∷ xs)).result (stands setup fs store p (x ∷ xs)).mode (versions_with_cursor x.seq store.versions)
    stand_own = subst (λ o. StandAt setup fs store (x ∷ xs) o (versions_with_cursor x.seq store.versions)) step fit.1

    pub numbered_own : AreConsecutive (versions_with_cursor x.seq store.versions)
    numbered_own = stand_numbered fs store (x ∷ xs) p (stands setup fs store p (x ∷ xs)) (stands setup fs store p (x ∷ xs)).result (stands setup fs store p (x ∷ xs)).mode (versions_with_cursor x.seq store.versions) stand_own

    -- the other invocations stay
    pub frame_other : (q : List ℕ) → bytes_eq q p ≡ false → call_in q x.holds ≡ None → commits (x ∷ xs) ≡ commits xs → expected setup fs store (get q ahead) (x ∷ xs) q ≡ expected setup fs store (get q ahead) xs q
    frame_other q e no_call cs = frame setup fs store (get q ahead) x xs q (let h = cursor_within setup fs store m xs q under fit.2 in omega (arith, h, is_seq)) (stands_apart q e) no_call cs

    pub before_other : (q : List ℕ) → bytes_eq q p ≡ false → get q s.invocations ≡ expected setup fs store (get q ahead) xs q
    before_other q e = agrees.invocations q ∙ ap (λ a. expected setup fs store a xs q) (get_other q p i ahead e)

    pub others_kept : ((q : List ℕ) → bytes_eq q p ≡ false → call_in q x.holds ≡ None) → commits (x ∷ xs) ≡ commits xs → OthersAre p (λ q. expected setup fs store (get q ahead) (x ∷ xs) q) s.invocations
    others_kept no_call cs q e = before_other q e ∙ sym (frame_other q e (no_call q e) cs)

    -- a record that is no write leaves the objects
    pub objects_kept : ((key : List ℕ) → logged_write_of key x.seq store.named (logged_write x.holds) ≡ None) → AreLast store (x ∷ xs) x.seq 1 s.objects
    objects_kept none key = agrees.objects key ∙ stage_before store x xs m is_seq under numbered_own key ∙ stage_other store x xs m is_seq under numbered_own key (none key)

    -- an operation's record
    module _ (reaches : Reaches fs store xs p (stands setup fs store p xs) i) where
      -- the invocation before its operation
      abbrev pub at_operation : Invocation
      at_operation = running_at (stands setup fs store p xs) (on fs store xs p (stands setup fs store p xs) (free_operations_to i (stands setup fs store p xs))) (open_since (commits xs) (stands setup fs store p xs).transaction)

      pub before_own : get p s.invocations ≡ Some at_operation
      before_own =
          agrees.invocations p ∙ ap (λ a. expected setup fs store a xs p) (get-put_same p i ahead)
          ∙ look_running setup fs store (Some i) xs p (stands setup fs store p xs) refl fit.2 reaches.begun reaches.unended

      -- the operation, and then the free ones
      pub operation_goes :
          (valid : Valid setup fs store ahead (x ∷ xs))
          → (after_step_record setup fs store xs p x.seq x.holds i (stands setup fs store p xs) ≡ after_operation fs store xs p x.seq x.holds i (stands setup fs store p xs))
          → (own : Answer) → own_answer store xs x.seq x.holds ≡ Some own
          → (op : Op) → asked_at fs p (stands setup fs store p xs) (on fs store xs p (stands setup fs store p xs) (free_operations_to i (stands setup fs store p xs))) ≡ Some (asks.Op op)
          → (s1 : Ideal) → ideal.perform p at_operation s (Some (asks.Op op)) ≡ Some s1
          → IsState fs store (x ∷ xs) p (λ q. expected setup fs store (get q ahead) (x ∷ xs) q) (queues (x ∷ xs)) (store_values (commits (x ∷ xs)))
          (running_at (stands setup fs store p xs) (own ∷ on fs store xs p (stands setup fs store p xs) (free_operations_to i (stands setup fs store p xs))) (open_since (commits (x ∷ xs)) (after_operation fs store xs p x.seq x.holds i (stands setup fs store p xs)).transaction)) x.seq 1 s1
          → Went setup fs store x xs m is_seq under fit ahead (operation_count (get p ahead) i 1 (versions_at x.seq store.versions)) p s
      operation_goes valid is_operated own own_is op asked s1 does is =
          let st : InvocationState = stands setup fs store p xs in
          let new : InvocationState = after_operation fs store xs p x.seq x.holds i st in
          let so_far : List Answer = on fs store xs p st (free_operations_to i st) in
          let answers_are : own ∷ so_far ≡ new.answers = ap (λ o. add_answer o so_far) (sym own_is) in
          let others : List ℕ → Option Invocation = λ q. expected setup fs store (get q ahead) (x ∷ xs) q in
          let one : Gone fs store (x ∷ xs) p others (queues (x ∷ xs)) (store_values (commits (x ∷ xs))) s 1 (running_at new (own ∷ so_far) (open_since (commits (x ∷ xs)) new.transaction)) x.seq 1 = record {
            state = s1;
            defined = go_one fs store xs p others s.queues s.names s at_operation refl before_own ∙ ap (ideal.perform p at_operation s) asked ∙ does;
            is = is;
          } in
          step_turn setup fs store x xs m is_seq under fit ahead p new (stands_own ∙ is_operated) reaches.begun reaches.unended refl s i 1
          (let long : length so_far ≡ free_operations_to i st + length st.answers = long_reaches fs store xs p st i reaches in let far : i ≡ suc (free_operations_to i st + length st.answers) = index_is fs store xs p st i reaches in let l : length new.answers ≡ suc (length so_far) = ap length (sym answers_are) in omega (arith, long, far, l))
          stand_own (valid p)
          (subst (λ l. Gone fs store (x ∷ xs) p others (queues (x ∷ xs)) (store_values (commits (x ∷ xs))) s 1 (running_at new l (open_since (commits (x ∷ xs)) new.transaction)) x.seq 1) answers_are one)
