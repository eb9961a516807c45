-- A value that is stored under its name keeps the invariant.
use Rattle.std.proofs.Common.{◌≡◌, inl, inr, ⊎_elim, ℕ, ◌+◌, Bool, true, false, List, [], ◌∷◌, length, Option, Some, None, sym, ap, ◌∙◌, subst}
use Rattle.lb_base.specs.declared.value.Cond.{Cond}
use Rattle.boki_types.specs.declared.body.Body.{Body}
use Rattle.boki_types.specs.declared.body.Body.TheVariants as b
use Rattle.boki_types.specs.declared.operation.Op.TheVariants as o
use Rattle.boki_types.specs.declared.operation.Ask.TheVariants as k
use Rattle.boki_types.specs.declared.operation.Answer.{Answer}
use Rattle.boki_types.specs.declared.plan.Setup.{Setup}
use Rattle.boki_types.specs.declared.program.Function.{Function}
use Rattle.boki_model.specs.Live.{LogRecord, Live, upto}
use Rattle.boki_model.specs.Bodies.{step_of}
use Rattle.boki_model.specs.Writes.{Store, NamedValue, KeyFence, value_under_name}
use Rattle.boki_machine.specs.Attempt.{Attempt}
use Rattle.boki_machine.specs.Decided.{InvocationState, invocation_state, with_free_answers}
use Rattle.exactly_once.specs.Induction.SoundLogs.{AllMayFollow, IsSound}
use Rattle.exactly_once.specs.FurtherLaws.StepRecords.{place_condition}
use Rattle.exactly_once.specs.Induction.Invariant.{records, IsStepRecord, SentOfKind, IsSentRecord, IsAskedWrite, AllFenced, KnowsStored, KnowsLate, Follows, IsFollowing}
use Rattle.exactly_once.specs.FurtherLaws.Words.{values_only}
use Rattle.exactly_once.specs.Induction.NamedValue.{with_named_value, StoringKeepsInvariant}
use Rattle.exactly_once.proofs.Log.ListElements.{each_weaker}
use Rattle.exactly_once.proofs.Invocations.SamePlace.{fit_upto}
use Rattle.exactly_once.proofs.Invariant.NamedValue.{value_kept, more_kept, point_kept, all_kept, logs_here, next_kept}

module _ (s : NamedValue) (store : Store) (new : value_under_name s.name store.named ≡ None) (setup : Setup) (fs : List Function) (fences : List KeyFence) (n : ℕ) (now : List (Live Body)) (fit : AllMayFollow setup fs store now) where
  abbrev then_store : Store
  then_store = with_named_value s store

  behind_fits : (p : List ℕ) (c : ℕ) → AllMayFollow setup fs store (upto c now)
  behind_fits p c = fit_upto setup fs store p c now fit

  same_at : (p : List ℕ) (c : ℕ) → invocation_state setup fs then_store p (upto c now) ≡ invocation_state setup fs store p (upto c now)
  same_at p c = point_kept s store new setup fs p (upto c now) (behind_fits p c)

  step_kept : (path : List ℕ) (condition : Option Cond) (body : Body) → IsStepRecord setup fs store fences n now path condition body → IsStepRecord setup fs then_store fences n now path condition body
  step_kept path condition body step = record {
    c = step.c;
    within = step.within;
    place = step.place ∙ sym (ap (λ (st : InvocationState). place_condition path st.place) (same_at path step.c));
    next = next_kept s store new setup fs fences (upto step.c now) now body (behind_fits path step.c) step.next;
  }

  kind_kept : (condition : Option Cond) (body : Body) (t : Option (List ℕ × ℕ)) → SentOfKind setup fs store fences n now condition body t → SentOfKind setup fs then_store fences n now condition body t
  kind_kept condition body (Some t) kind = step_kept t.0 condition body kind
  kind_kept condition (b.Submit p f args) None kind = kind
  kind_kept condition _ None kind = tt

  asked_kept : (r : LogRecord Body) → IsSentRecord setup fs store fences n now r → IsSentRecord setup fs then_store fences n now r
  asked_kept r asked = record { own = asked.own; kind = kind_kept r.condition r.holds (step_of r.holds) asked.kind }

  owed_kept : (t : NamedValue) → IsAskedWrite setup fs store fences n now t → IsAskedWrite setup fs then_store fences n now t
  owed_kept t owed = record {
    c = owed.c;
    within = owed.within;
    key = owed.key;
    index = owed.index;
    place = owed.place ∙ sym (ap (λ (st : InvocationState). st.place) (same_at t.name.path owed.c));
    asks = logs_here s store new setup fs fences (upto owed.c now) t.name.path owed.index (k.Op (o.Write owed.key t.value)) (behind_fits t.name.path owed.c) owed.asks;
  }

  stored_kept : (path : List ℕ) (st : InvocationState) (answers : List Answer) (t : Bool) → KnowsStored fs store path st answers t → KnowsStored fs then_store path st answers t
  stored_kept path st answers false knows = tt
  stored_kept path st answers true knows = (knows.0, knows.1, knows.2, value_kept s store new (record { path = path; place = st.place }) knows.1 knows.3)

  late_kept : (path : List ℕ) (st : InvocationState) (answers : List Answer) (free : ℕ) (t : Bool) → KnowsLate fs store fences path st answers free t → KnowsLate fs then_store fences path st answers free t
  late_kept path st answers free false knows = tt
  late_kept path st answers free true knows = knows

  follows_kept : (c : ℕ) (a : Attempt) → Follows setup fs store fences (upto c now) a → Follows setup fs then_store fences (upto c now) a
  follows_kept c a f =
      let behind = upto c now in
      let old = invocation_state setup fs store a.path behind in
      let e = same_at a.path c in
      record {
        begun = ap (λ (st : InvocationState). st.begun) e ∙ f.begun;
        unended = ap (λ (st : InvocationState). st.result) e ∙ f.unended;
        cursor = ap (λ (st : InvocationState). st.cursor) e ∙ f.cursor;
        place = ap (λ (st : InvocationState). st.place) e ∙ f.place;
        mode = ap (λ (st : InvocationState). st.mode) e ∙ f.mode;
        function = ap (λ (st : InvocationState). st.function) e ∙ f.function;
        args = ap (λ (st : InvocationState). st.args) e ∙ f.args;
        transaction = ap (λ (st : InvocationState). st.transaction) e ∙ f.transaction;
        fenced = f.fenced;
        free = f.free;
        answers = f.answers ∙ sym (more_kept s store new setup fs behind a.path old f.free (behind_fits a.path c)) ∙ ap (λ st. with_free_answers fs then_store behind a.path st f.free) (sym e);
        decided = f.decided ∙ ap (λ (st : InvocationState). f.free + length st.answers) (sym e);
        counts = f.counts;
        stored = subst (λ st. KnowsStored fs then_store a.path st a.answers a.stored) (sym e) (stored_kept a.path old a.answers a.stored f.stored);
        late = subst (λ st. KnowsLate fs then_store fences a.path st a.answers f.free a.late) (sym e) (late_kept a.path old a.answers f.free a.late f.late);
        stored_late = f.stored_late;
      }

  following_kept : (positions : List ℕ) (a : Attempt) → IsFollowing setup fs store fences n now positions a → IsFollowing setup fs then_store fences n now positions a
  following_kept positions a is = record { within = is.within; seen = is.seen; follows = ⊎_elim (λ fresh. inl fresh) (λ f. inr (follows_kept a.cursor a f)) is.follows }

  fenced_kept : (xs : List (Live Body)) → AllFenced store fences xs → AllFenced then_store fences xs
  fenced_kept [] all = tt
  fenced_kept (x ∷ xs) all = (all.0, all.1, fenced_kept xs all.2)

  sound_kept : IsSound setup fs store now → IsSound setup fs then_store now
  sound_kept sound = record { fit = all_kept s store new setup fs now sound.fit; placed = sound.placed }

pub names_keep : StoringKeepsInvariant
names_keep setup fs w s holds new owed =
    let old = values_only w.store in
    let n = length w.log in
    let now = records w in
    let fences = w.store.fences in
    let fit = holds.sound.fit in
    record {
      sound = sound_kept s old new setup fs fences n now fit holds.sound;
      fenced = fenced_kept s old new setup fs fences n now fit now holds.fenced;
      sent = each_weaker (IsSentRecord setup fs old fences n now) (IsSentRecord setup fs (with_named_value s old) fences n now) (asked_kept s old new setup fs fences n now fit) w.sent holds.sent;
      ordered = holds.ordered;
      owed = (owed_kept s old new setup fs fences n now fit s owed, each_weaker (IsAskedWrite setup fs old fences n now) (IsAskedWrite setup fs (with_named_value s old) fences n now) (owed_kept s old new setup fs fences n now fit) w.store.named holds.owed);
      attempts = each_weaker (IsFollowing setup fs old fences n now w.positions) (IsFollowing setup fs (with_named_value s old) fences n now w.positions) (following_kept s old new setup fs fences n now fit w.positions) w.attempts holds.attempts;
      floor_is = holds.floor_is;
      positions = holds.positions;
    }
