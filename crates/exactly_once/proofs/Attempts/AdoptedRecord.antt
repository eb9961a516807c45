-- An attempt adopts the record at its place: it stands then where the records up to that one put its invocation.
use Rattle.std.proofs.Common.{◌≡◌, inr, ℕ, suc, ◌-◌, Bool, true, false, cond, ltb, List, ◌∷◌, length, Option, Some, refl, sym, ap, ◌∙◌, subst, arith}
use Rattle.std.specs.Prelude.{bytes_eq}
use Rattle.std.specs.List.{AllByRecursion}
use Rattle.lb_base.specs.Path.{IsPath}
use Rattle.lb_base.specs.declared.value.Mode.{Mode}
use Rattle.lb_base.specs.declared.value.Mode.TheVariants.{R, W, T}
use Rattle.boki_types.specs.declared.body.Body.{Body}
use Rattle.boki_types.specs.declared.line.Life.{Life}
use Rattle.boki_types.specs.declared.line.Life.TheVariants.{Running, Stopped}
use Rattle.boki_types.specs.declared.line.StepLine.{StepLine}
use Rattle.boki_types.specs.declared.line.StepLine.TheVariants as l
use Rattle.boki_types.specs.declared.operation.Answer.{Answer}
use Rattle.boki_types.specs.declared.plan.Setup.{Setup}
use Rattle.boki_types.specs.declared.program.Function.{Function}
use Rattle.boki_model.specs.Live.{Live, upto}
use Rattle.boki_model.specs.Bodies.{step_of}
use Rattle.boki_model.specs.Writes.{Store, KeyFence, raise_fences}
use Rattle.boki_machine.specs.Attempt.{Attempt, moves, adopts, answered_with, next_index}
use Rattle.boki_machine.specs.Decided.{InvocationState, with_free_answers, add_answer, own_answer, transaction_after, after_step_record, after_operation}
use Rattle.boki_machine.specs.Step.{records_below, stop_gone, adopts_answer, adopts_marker}
use Rattle.exactly_once.specs.Induction.SoundLogs.{MayFollow, free_operations_to}
use Rattle.exactly_once.specs.Induction.Invariant.{World, records, marked_reads, marked_reads_by, marked_reads_at, AreFenced, CountsFreeWrites, SeesCursor, Follows, IsFollowing, InvariantHolds}
use Rattle.exactly_once.specs.FurtherLaws.Words.{values_only, IsAmong}
use Rattle.exactly_once.specs.Induction.StepKeeps.{MoveKeeps}
use Rattle.exactly_once.proofs.Log.LiveRecords.{live_under}
use Rattle.exactly_once.proofs.Log.MapChanges.{same_itself}
use Rattle.exactly_once.proofs.Invocations.NextRecord.{stands}
use Rattle.exactly_once.proofs.Simulation.OperationTurn.{stands_own}
use Rattle.exactly_once.proofs.Invariant.MicroSteps.{steps_keep}
use Rattle.exactly_once.proofs.Invariant.QuietEvents.{following_as}
use Rattle.exactly_once.proofs.Asking.OpenTransactions.{same_step}
use Rattle.exactly_once.proofs.Invocations.RecordAtPlace.{IsTagged, all_tagged, IsRecorded, point_same, marks_same, more_same}
use Rattle.exactly_once.proofs.Attempts.EngineViews.{raised_marks}
use Rattle.exactly_once.proofs.OldVersions.StepOrigins.{own_log}
use Rattle.exactly_once.proofs.Attempts.ActingAttempt.{engine_at, within_log, following, up_to, at_point}

pub no_frees : (mode : Mode) → CountsFreeWrites mode 0 0
no_frees R = refl
no_frees W = refl
no_frees T = refl

module _ (setup : Setup) (fs : List Function) (w : World) (holds : InvariantHolds setup fs w) (a : Attempt) (among : IsAmong a w.attempts) where
  -- the attempt stays as it is, or stops
  pub stay_right : (line : StepLine) → MoveKeeps setup fs w (moves a w.store line)
  stay_right line = record { holds = holds; follows = following setup fs w holds a among }

  pub life_right : (life : Life) (line : StepLine) → ((cursor position : ℕ) → SeesCursor cursor position life) → MoveKeeps setup fs w (moves (record a { life = life }) w.store line)
  life_right life line seen = record {
    holds = holds;
    follows = following_as setup fs (values_only w.store) w.store.fences (length w.log) (records w) w.positions a life a.waiting (seen a.cursor (engine_at setup fs w holds a)) (following setup fs w holds a among);
  }

  pub gone_right : MoveKeeps setup fs w (stop_gone a w.store)
  gone_right = life_right Stopped l.StoppedGone (λ cursor position. tt)

  module _ (running : a.life ≡ Running) (path : IsPath a.path) where
    abbrev now : List (Live Body)
    now = records w

    abbrev store : Store
    store = values_only w.store

    abbrev n : ℕ
    n = length w.log

    abbrev pos : ℕ
    pos = engine_at setup fs w holds a

    abbrev view : List (Live Body)
    view = upto pos now

    pub tags : AllByRecursion (IsTagged a.path) now
    tags = all_tagged a.path path w.log (own_log setup fs w holds)

    abbrev pub Recorded : ℕ → Live Body → Type 0
    Recorded place x = IsRecorded setup fs store n now (live_under w.log) holds.sound.fit a.path tags pos place x

    module _ (f : Follows setup fs store w.store.fences (up_to setup fs w holds a) a) (x : Live Body) (r : Recorded a.place x) (index : next_index a.answers ≡ r.index) where
      abbrev behind : List (Live Body)
      behind = r.behind

      abbrev st : InvocationState
      st = stands setup fs store a.path behind

      pub same : st ≡ at_point setup fs w holds a
      same = point_same setup fs store n now (live_under w.log) holds.sound.fit a.path tags pos a.place x r a.cursor f.place

      -- what it has answered is what its invocation has, up to this record's operation
      pub so_far : with_free_answers fs store behind a.path st (free_operations_to r.index st) ≡ a.answers
      so_far =
          ap (with_free_answers fs store behind a.path st) (let e : free_operations_to r.index st ≡ f.free = (let d = f.decided in let s = ap (λ (st : InvocationState). length st.answers) same in omega (arith, d, s, index)) in e)
          ∙ more_same setup fs store n now (live_under w.log) holds.sound.fit a.path tags pos a.place x r a.cursor f.place f.free
          ∙ sym f.answers

      pub adopt_follows :
          (fences : List KeyFence) (body : Body) → x.holds ≡ body → (answer : Answer) (begun : Option ℕ)
          → after_step_record setup fs store behind a.path x.seq body r.index st ≡ after_operation fs store behind a.path x.seq body r.index st
          → own_answer store behind x.seq body ≡ Some answer → transaction_after x.seq body a.transaction ≡ begun → AreFenced fences (marked_reads a.path (x ∷ behind))
          → IsFollowing setup fs store fences n now w.positions (answered_with (adopts (record a { transaction = begun }) x.seq) answer)
      adopt_follows fences body holds_is answer begun is_operated own transaction fenced =
          let new : InvocationState = after_operation fs store behind a.path x.seq body r.index st in
          let is : stands setup fs store a.path (upto x.seq now) ≡ new =
          ap (stands setup fs store a.path) r.cut
          ∙ stands_own setup fs store x behind a.path r.index r.step
          ∙ ap (λ body. after_step_record setup fs store behind a.path x.seq body r.index st) holds_is
          ∙ is_operated in
          let answers_are : new.answers ≡ answer ∷ a.answers = ap (λ o. add_answer o (with_free_answers fs store behind a.path st (free_operations_to r.index st))) own ∙ ap (λ l. answer ∷ l) so_far in
          let no_way : false ≡ true → ⊥ = λ e. cc in
          record {
            within = let seen = r.seen in let all = within_log setup fs w holds a in omega (arith, seen, all);
            seen = subst (SeesCursor x.seq pos) (sym running) r.seen;
            follows = inr (record {
              begun = ap (λ (st : InvocationState). st.begun) is ∙ ap (λ (st : InvocationState). st.begun) same ∙ f.begun;
              unended = ap (λ (st : InvocationState). st.result) is ∙ ap (λ (st : InvocationState). st.result) same ∙ f.unended;
              cursor = ap (λ (st : InvocationState). st.cursor) is;
              place = ap (λ (st : InvocationState). st.place) is ∙ ap (λ (st : InvocationState). suc st.place) same ∙ ap suc f.place;
              mode = ap (λ (st : InvocationState). st.mode) is ∙ ap (λ (st : InvocationState). st.mode) same ∙ f.mode;
              function = ap (λ (st : InvocationState). st.function) is ∙ ap (λ (st : InvocationState). st.function) same ∙ f.function;
              args = ap (λ (st : InvocationState). st.args) is ∙ ap (λ (st : InvocationState). st.args) same ∙ f.args;
              transaction = ap (λ (st : InvocationState). st.transaction) is ∙ ap (transaction_after x.seq body) (ap (λ (st : InvocationState). st.transaction) same ∙ f.transaction) ∙ transaction;
              fenced = subst (λ xs. AreFenced fences (marked_reads a.path xs)) (sym r.cut) fenced;
              free = 0;
              answers = sym (ap (λ (st : InvocationState). st.answers) is ∙ answers_are);
              decided = (let e = ap length (ap (λ (st : InvocationState). st.answers) is ∙ answers_are) in omega (arith, e));
              counts = no_frees a.mode;
              stored = tt;
              late = tt;
              stored_late = λ e. absurd (no_way e);
            });
          }

      -- marks of a record that is no marker
      pub fenced_there : (body : Body) → x.holds ≡ body → ((others : List KeyFence) → marked_reads_by a.path x.seq body others ≡ others) → AreFenced w.store.fences (marked_reads a.path (x ∷ behind))
      fenced_there body holds_is none =
          subst (AreFenced w.store.fences)
          (sym (ap (λ body. marked_reads_by a.path x.seq body (marked_reads a.path behind)) holds_is ∙ none (marked_reads a.path behind)
          ∙ marks_same setup fs store n now (live_under w.log) holds.sound.fit a.path tags pos a.place x r a.cursor f.place)) f.fenced

      pub plain_right :
          (body : Body) → x.holds ≡ body → (answer : Answer) (begun : Option ℕ) (line : StepLine)
          → after_step_record setup fs store behind a.path x.seq body r.index st ≡ after_operation fs store behind a.path x.seq body r.index st
          → own_answer store behind x.seq body ≡ Some answer → transaction_after x.seq body a.transaction ≡ begun → ((others : List KeyFence) → marked_reads_by a.path x.seq body others ≡ others)
          → MoveKeeps setup fs w (adopts_answer (record a { transaction = begun }) w.store x.seq answer line)
      plain_right body holds_is answer begun line is_operated own transaction none =
          record { holds = holds; follows = adopt_follows w.store.fences body holds_is answer begun is_operated own transaction (fenced_there body holds_is none) }

      -- a marker
      pub marker_right :
          (body : Body) → x.holds ≡ body → (keys : List (List ℕ)) (answer : Answer) (line : StepLine)
          → after_step_record setup fs store behind a.path x.seq body r.index st ≡ after_operation fs store behind a.path x.seq body r.index st
          → (ltb x.seq w.store.floor ≡ false → own_answer store behind x.seq body ≡ Some answer) → transaction_after x.seq body a.transaction ≡ a.transaction
          → ((others : List KeyFence) → marked_reads_by a.path x.seq body others ≡ marked_reads_at x.seq keys others)
          → MoveKeeps setup fs w (adopts_marker a w.store x.seq keys answer line)
      marker_right body holds_is keys answer line is_operated own transaction marked = at (ltb x.seq w.store.floor) refl
        where
          at : (t : Bool) → ltb x.seq w.store.floor ≡ t → MoveKeeps setup fs w (cond t (stop_gone a w.store) (adopts_answer a (cond t w.store (record (w.store) { fences = raise_fences keys x.seq w.store.fences })) x.seq answer line))
          at true e = gone_right
          at false e = record {
            holds = (steps_keep setup fs w holds).raise keys x.seq;
            follows =
                adopt_follows (raise_fences keys x.seq w.store.fences) body holds_is answer a.transaction is_operated (own e) transaction
                (subst (AreFenced (raise_fences keys x.seq w.store.fences))
                (sym (ap (λ body. marked_reads_by a.path x.seq body (marked_reads a.path behind)) holds_is ∙ marked (marked_reads a.path behind)
                ∙ ap (marked_reads_at x.seq keys) (marks_same setup fs store n now (live_under w.log) holds.sound.fit a.path tags pos a.place x r a.cursor f.place)))
                (raised_marks keys x.seq w.store.fences (marked_reads a.path (up_to setup fs w holds a)) f.fenced));
          }

      -- the record's path is the attempt's
      pub own_path : (q : List ℕ) (i : ℕ) → ◌≡◌ {A = Option (List ℕ × ℕ)} (Some (q, i)) (Some (a.path, r.index)) → bytes_eq a.path q ≡ true
      own_path q i e = ap (bytes_eq a.path) (ap (λ (s : List ℕ × ℕ). s.0) (same_step (q, i) (a.path, r.index) e)) ∙ same_itself a.path

      pub step_as : (body : Body) → x.holds ≡ body → ◌≡◌ {A = Option (List ℕ × ℕ)} (step_of body) (Some (a.path, r.index))
      step_as body e = ap step_of (sym e) ∙ r.step

      pub seen_below : records_below x.seq view ≡ behind
      seen_below = ap (λ c. upto c view) (let e = r.seq_is in let d : x.seq - 1 ≡ r.m = omega (arith, e) in d) ∙ r.seen_below

      pub fits_as : (body : Body) → x.holds ≡ body → MayFollow setup fs store behind body
      fits_as body e = subst (MayFollow setup fs store behind) e r.fits.0
