-- A step of an attempt keeps the invariant, whatever it does.
use Rattle.std.proofs.Common.{◌≡◌, inr, ⊎_elim, ℕ, zero, suc, ◌-◌, ◌<◌, Bool, true, false, cond, List, ◌∷◌, length, Option, Some, None, refl, sym, ap, ◌∙◌, subst, arith}
use Rattle.std.specs.Prelude.{bytes_eq, unwrap_or}
use Rattle.std.proofs.lemmas.Bool.{eqb-true}
use Rattle.lb_base.specs.Path.{IsPath}
use Rattle.lb_base.specs.declared.value.Outcome.{Outcome}
use Rattle.boki_types.specs.declared.body.Body.{Body}
use Rattle.boki_types.specs.declared.line.Life.{Life}
use Rattle.boki_types.specs.declared.line.Life.TheVariants.{Running, Over, Stopped, Killed}
use Rattle.boki_types.specs.declared.line.StepLine.TheVariants as l
use Rattle.boki_types.specs.declared.log.Call.{Call}
use Rattle.boki_types.specs.declared.log.Sent.{Sent}
use Rattle.boki_types.specs.declared.operation.Ask.{Ask}
use Rattle.boki_types.specs.declared.operation.Ask.TheVariants as k
use Rattle.boki_types.specs.declared.plan.Setup.{Setup}
use Rattle.boki_types.specs.declared.program.Function.{Function}
use Rattle.boki_types.specs.Finding.{find}
use Rattle.boki_model.specs.Live.{Live, upto}
use Rattle.boki_model.specs.Bodies.{step_tag, step_of}
use Rattle.boki_model.specs.Reads.{nth}
use Rattle.boki_model.specs.Modes.{result_of, mode_after}
use Rattle.boki_model.specs.Writes.{Store}
use Rattle.boki_machine.specs.Attempt.{Attempt, Move, call_of, next_index}
use Rattle.boki_machine.specs.Decided.{InvocationState, after_init}
use Rattle.boki_machine.specs.Step.{records_below, unless_waiting, has_index, answers_to, adopt_or, init_step, attempt_ask, step_at_place, step_when_called, step_if_running}
use Rattle.exactly_once.specs.FurtherLaws.StepRecords.{step_seqnums}
use Rattle.exactly_once.specs.Induction.Invariant.{World, records, marked_reads, marked_reads_by, AreFenced, SeesCursor, IsFresh, Follows, InvariantHolds}
use Rattle.exactly_once.specs.FurtherLaws.Words.{values_only, IsAmong}
use Rattle.exactly_once.specs.Induction.StepKeeps.{MoveKeeps, MovesKeepInvariant}
use Rattle.exactly_once.specs.Induction.VersionKeeps.{PuttingKeepsInvariant}
use Rattle.exactly_once.proofs.Log.LiveRecords.{live_under}
use Rattle.exactly_once.proofs.Invocations.NextRecord.{stands, Does, does, apart, began, operates, ends}
use Rattle.exactly_once.proofs.Invocations.SamePlace.{called_upto, place_is, unbegun_marks}
use Rattle.exactly_once.proofs.Log.MapChanges.{same_itself}
use Rattle.exactly_once.proofs.Invocations.RecordAtPlace.{recorded, none_begun, none_found, count_steps, tagged_upto}
use Rattle.exactly_once.proofs.OldVersions.StepOrigins.{own_log}
use Rattle.exactly_once.proofs.Attempts.ActingAttempt.{called_path, engine_at, within_log, following, up_to, fit_here}
use Rattle.exactly_once.proofs.Attempts.SentIsAsked.{init_right}
use Rattle.exactly_once.proofs.Attempts.AdoptedRecord.{no_frees, stay_right, life_right, tags, Recorded}
use Rattle.exactly_once.proofs.Attempts.RecordAnswers.{takes_right}
use Rattle.exactly_once.proofs.Attempts.WithoutRecord as operates
use Rattle.exactly_once.proofs.Attempts.WithoutRecord.{asks_right}

module _ (setup : Setup) (fs : List Function) (w : World) (holds : InvariantHolds setup fs w) (t : Attempt) (among : IsAmong t w.attempts) where
  abbrev pos : ℕ
  pos = engine_at setup fs w holds t

  abbrev view : List (Live Body)
  view = upto pos (records w)

  waits_right : (waiting : Bool) (move : Move) → MoveKeeps setup fs w move → MoveKeeps setup fs w (unless_waiting waiting t w.store move)
  waits_right true move right = stay_right setup fs w holds t among l.WaitsRecord
  waits_right false move right = right

  -- one that has adopted no record
  is_fresh : t.place ≡ 0 → IsFresh t
  is_fresh zero_is = ⊎_elim (λ fresh. fresh) (λ f. absurd (never f)) (following setup fs w holds t among).follows
    where
      never : Follows setup fs (values_only w.store) w.store.fences (up_to setup fs w holds t) t → ⊥
      never f =
          let here = up_to setup fs w holds t in
          let fit = fit_here setup fs w holds t in
          let some : 0 < length (step_seqnums t.path here) = none_begun setup fs (values_only w.store) t.path here fit f.begun in
          let none : length (step_seqnums t.path here) ≡ 0 = sym (place_is setup fs (values_only w.store) t.path here fit) ∙ f.place ∙ zero_is in
          let no_way : ⊥ = omega (arith, some, none) in no_way

  module _ (running : t.life ≡ Running) (call : Call) (called : call_of t.path view ≡ Some call) where
    path : IsPath t.path
    path = path_from (called_upto setup fs (values_only w.store) t.path pos call (records w) called)
      where
        path_from : call_of t.path (records w) ≡ Some call → IsPath t.path
        path_from is = called_path t.path call w.log (own_log setup fs w holds) is

    -- the Init at place 0
    init_taken : (at : Sent) (x : Live Body) → t.place ≡ 0 → nth (step_tag t.path) 0 view ≡ Some x → MoveKeeps setup fs w (init_step setup fs t w.store view at call (Some x))
    init_taken at x zero_is found = by_record (recorded setup fs (values_only w.store) (length w.log) (records w) (live_under w.log) holds.sound.fit t.path (tags setup fs w holds t among running path) pos 0 x found)
      where
        by_record : Recorded setup fs w holds t among running path 0 x → MoveKeeps setup fs w (init_step setup fs t w.store view at call (Some x))
        by_record r = does_what (stands setup fs (values_only w.store) t.path (x ∷ r.behind)) refl (does setup fs (values_only w.store) x r.behind t.path r.fits.0)
          where
            store : Store
            store = values_only w.store

            no_begun : (stands setup fs (values_only w.store) t.path r.behind).begun ≡ true → ⊥
            no_begun begun = let some : 0 < length (step_seqnums t.path r.behind) = none_begun setup fs (values_only w.store) t.path r.behind r.fits.2 begun in let none = r.place_is in let no_way : ⊥ = omega (arith, some, none) in no_way

            does_what : (next : InvocationState) → stands setup fs (values_only w.store) t.path (x ∷ r.behind) ≡ next → Does setup fs (values_only w.store) x.seq x.holds r.behind t.path next → MoveKeeps setup fs w (init_step setup fs t w.store view at call (Some x))
            does_what next e (apart other finish same) =
                let own : bytes_eq t.path t.path ≡ false = other (t.path, r.index) r.step in let yes = same_itself t.path in let no_way : true ≡ false = sym yes ∙ own in cc
            does_what next e (operates i s finish reaches same) = absurd (no_begun reaches.begun)
            does_what next e (ends i outcome body done same) = absurd (no_begun done.reaches.begun)
            does_what next e (began body may same) =
                let fresh = is_fresh zero_is in
                let point : stands setup fs (values_only w.store) t.path (upto x.seq (records w)) ≡ after_init setup fs r.behind x.seq (Some may.call) =
                ap (stands setup fs (values_only w.store) t.path) r.cut ∙ e ∙ same ∙ ap (after_init setup fs r.behind x.seq) may.called in
                let calls : Some may.call ≡ Some call = sym (called_upto setup fs (values_only w.store) t.path r.m may.call view (ap (call_of t.path) r.seen_below ∙ may.called)) ∙ called in
                let same_call : may.call ≡ call = cc in
                let below_is : records_below x.seq view ≡ r.behind = (let s = r.seq_is in let c : x.seq - 1 ≡ r.m = omega (arith, s) in ap (λ c. upto c view) c) ∙ r.seen_below in
                let no_way : false ≡ true → ⊥ = λ e. cc in
                record {
                  holds = holds;
                  follows = record {
                    within = (let seen = r.seen in let all = within_log setup fs w holds t in omega (arith, seen, all));
                    seen = subst (SeesCursor x.seq pos) (sym running) r.seen;
                    follows = inr (record {
                      begun = ap (λ (st : InvocationState). st.begun) point;
                      unended = ap (λ (st : InvocationState). st.result) point;
                      cursor = ap (λ (st : InvocationState). st.cursor) point;
                      place = ap (λ (st : InvocationState). st.place) point ∙ ap suc (sym zero_is);
                      mode = ap (λ (st : InvocationState). st.mode) point ∙ ap (mode_after setup.mode) (sym below_is);
                      function = ap (λ (st : InvocationState). st.function) point ∙ ap (λ (c : Call). unwrap_or (find c.function fs) 0) same_call;
                      args = ap (λ (st : InvocationState). st.args) point ∙ ap (λ (c : Call). c.args) same_call;
                      transaction = ap (λ (st : InvocationState). st.transaction) point ∙ sym fresh.transaction;
                      fenced = subst (λ xs. AreFenced w.store.fences (marked_reads t.path xs)) (sym r.cut)
                          (subst (AreFenced w.store.fences) (sym (ap (λ body. marked_reads_by t.path x.seq body (marked_reads t.path r.behind)) body ∙ unbegun_marks setup fs (values_only w.store) t.path r.behind r.fits.2 may.new)) tt);
                      free = 0;
                      answers = fresh.answers ∙ sym (ap (λ (st : InvocationState). st.answers) point);
                      decided = (let n = ap length fresh.answers in let m = ap (λ (st : InvocationState). length st.answers) point in omega (arith, n, m));
                      counts = no_frees (mode_after setup.mode (records_below x.seq view));
                      stored = tt;
                      late = tt;
                      stored_late = λ e. absurd (no_way e);
                    });
                  };
                }

    begins_right : (at : Sent) → t.place ≡ 0 → (o : Option (Live Body)) → nth (step_tag t.path) 0 view ≡ o → MoveKeeps setup fs w (init_step setup fs t w.store view at call o)
    begins_right at zero_is (Some x) found = init_taken at x zero_is found
    begins_right at zero_is None found =
        waits_right t.waiting _
        (init_right setup fs w holds t among call (l.SendInit at) path zero_is view refl called
        (sym (count_steps t.path view (tagged_upto t.path pos (records w) (tags setup fs w holds t among running path))) ∙ none_found (step_tag t.path) view found))

    -- the record at a later place
    module _ (place : ℕ) (begun : t.place ≡ suc place) where
      takes_it : (ask : Option Ask) (o : Option (Live Body)) → nth (step_tag t.path) t.place view ≡ o → (other : Move) → MoveKeeps setup fs w other → MoveKeeps setup fs w (adopt_or t w.store view (answers_to t ask o) other)
      takes_it (Some (k.Op op)) (Some x) found other right = by_index (has_index (next_index t.answers) (step_of x.holds)) refl
        where
          r : Recorded setup fs w holds t among running path t.place x
          r = recorded setup fs (values_only w.store) (length w.log) (records w) (live_under w.log) holds.sound.fit t.path (tags setup fs w holds t among running path) pos t.place x found

          by_index : (u : Bool) → has_index (next_index t.answers) (step_of x.holds) ≡ u → MoveKeeps setup fs w (adopt_or t w.store view (cond u (Some x) None) other)
          by_index false e = right
          by_index true e =
              let index : next_index t.answers ≡ r.index = eqb-true (next_index t.answers) r.index (sym (ap (has_index (next_index t.answers)) r.step) ∙ e) in
              takes_right setup fs w holds t among running path (operates.f setup fs w holds t among running path place begun) x r index x.holds refl other right
      takes_it (Some (k.Op op)) None found other right = right
      takes_it (Some (k.Done outcome)) o found other right = right
      takes_it None o found other right = right

    placed_right : PuttingKeepsInvariant → (at : Sent) (place : ℕ) → t.place ≡ place → MoveKeeps setup fs w (step_at_place setup fs t w.store view at call place)
    placed_right versions_keep at zero is = begins_right at is (nth (step_tag t.path) 0 view) refl
    placed_right versions_keep at (suc place) is =
        takes_it place is (attempt_ask fs t) (nth (step_tag t.path) t.place view) refl _
        (waits_right t.waiting _ (asks_right setup fs w holds t among running path place is versions_keep at (attempt_ask fs t) refl))

  with_call_right : PuttingKeepsInvariant → (at : Sent) → t.life ≡ Running → (result : Option Outcome) (call : Option Call) → call_of t.path view ≡ call → MoveKeeps setup fs w (step_when_called setup fs t w.store view at result call)
  with_call_right versions_keep at running (Some outcome) call e = life_right setup fs w holds t among Over (l.Over outcome) (λ cursor position. tt)
  with_call_right versions_keep at running None None e = stay_right setup fs w holds t among l.WaitsCall
  with_call_right versions_keep at running None (Some call) e = placed_right running call e versions_keep at t.place refl

  step_right : PuttingKeepsInvariant → (at : Sent) (life : Life) → t.life ≡ life → MoveKeeps setup fs w (step_if_running setup fs t w.store view at life)
  step_right versions_keep at Running e = with_call_right versions_keep at e (result_of t.path view) (call_of t.path view) refl
  step_right versions_keep at Over e = stay_right setup fs w holds t among l.Idle
  step_right versions_keep at Stopped e = stay_right setup fs w holds t among l.Idle
  step_right versions_keep at Killed e = stay_right setup fs w holds t among l.Idle

pub moves_keep : PuttingKeepsInvariant → MovesKeepInvariant
moves_keep versions_keep setup fs w t at holds among = step_right setup fs w holds t among versions_keep at t.life refl
