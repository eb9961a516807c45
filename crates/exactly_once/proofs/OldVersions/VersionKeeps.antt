-- A version that is put in keeps the invariant.
use Rattle.std.proofs.Common.{◌≡◌, ◌⊎◌, inl, inr, ⊎_elim, ℕ, suc, ◌+◌, ◌<◌, ◌≤◌, Bool, true, false, cond, eqb, ◌&&◌, List, [], ◌∷◌, length, Option, Some, None, refl, sym, ap, ◌∙◌, subst, arith}
use Rattle.std.specs.Prelude.{bytes_eq, IsTrue}
use Rattle.std.proofs.lemmas.Bool.{and_parts, eqb-true, eq-eqb, or_left, or_right}
use Rattle.lb_base.specs.declared.value.Value.{Value}
use Rattle.lb_base.specs.declared.value.Mode.{Mode}
use Rattle.lb_base.specs.declared.value.Mode.TheVariants.{R, W, T}
use Rattle.lb_base.specs.declared.value.Outcome.{Outcome}
use Rattle.lb_base.specs.declared.value.Cond.{Cond}
use Rattle.boki_types.specs.declared.body.Body.{Body}
use Rattle.boki_types.specs.declared.body.Body.TheVariants as b
use Rattle.boki_types.specs.declared.operation.Op.TheVariants as o
use Rattle.boki_types.specs.declared.operation.Ask.TheVariants as k
use Rattle.boki_types.specs.declared.operation.Answer.{Answer}
use Rattle.boki_types.specs.declared.plan.Setup.{Setup}
use Rattle.boki_types.specs.declared.program.Function.{Function}
use Rattle.boki_model.specs.Live.{LogRecord, Live, upto, is_live}
use Rattle.boki_model.specs.Bodies.{step_of}
use Rattle.boki_model.specs.Writes.{Store, Version, NamedValue, KeyFence, version_value, fence}
use Rattle.boki_machine.specs.Attempt.{Attempt}
use Rattle.boki_machine.specs.Decided.{InvocationState, invocation_state, with_free_answers, asked_at}
use Rattle.exactly_once.specs.Induction.SoundLogs.{AreNextWrites, MayStand, StandAt, AllMayFollow}
use Rattle.exactly_once.specs.FurtherLaws.Words.{versions_with_cursor, values_only}
use Rattle.exactly_once.specs.FurtherLaws.StepRecords.{place_condition}
use Rattle.exactly_once.specs.Induction.Invariant.{World, records, marked_reads, AreFenced, IsStepRecord, SentOfKind, IsSentRecord, IsAskedWrite, FencedBehind, AllFenced, KnowsStored, KnowsLate, IsFresh, Follows, IsFollowing, InvariantHolds}
use Rattle.exactly_once.specs.Induction.VersionKeeps.{with_version_put, next_version, MayPut, PuttingKeepsInvariant, DecidedReadsStay}
use Rattle.exactly_once.proofs.Log.HistoryTails.{Tail, here, there, shorter}
use Rattle.exactly_once.proofs.Log.ListElements.{each_weaker}
use Rattle.exactly_once.proofs.Log.LiveRecords.{live_under}
use Rattle.exactly_once.proofs.Log.MapChanges.{same_key, same_itself}
use Rattle.exactly_once.proofs.Invocations.NextRecord.{stands, Does, does, apart, began, operates, ends}
use Rattle.exactly_once.proofs.Invariant.OrderedRecord.{among_each, stand_none}
use Rattle.exactly_once.proofs.Invocations.InitAndCursor.{upto_tail, one_record, fit_tail}
use Rattle.exactly_once.proofs.OldVersions.Writers.{IsWriter, its_mode, behind_is, stood, on_tail, on_seq, its_writes, few_decided, as_many, asks_more, is_its, same_more_in_W}
use Rattle.exactly_once.proofs.OldVersions.NoStepBeyond.{reads_below}
use Rattle.exactly_once.proofs.OldVersions.OneVersionMore.{IsSafe, more_kept, writes_kept}
use Rattle.exactly_once.proofs.OldVersions.UnmovedInvocations.{old, new, point_kept, framed, fits_kept, logs_here, next_kept}

tail_live : (x : Live Body) (xs ys : List (Live Body)) → Tail (x ∷ xs) ys → is_live x.seq ys ≡ true
tail_live x xs ys here = or_left (eqb x.seq x.seq) (is_live x.seq xs) (eq-eqb x.seq x.seq refl)
tail_live x xs (y ∷ ys) (there t) = or_right (eqb x.seq y.seq) (is_live x.seq ys) (tail_live x xs ys t)

module _ (setup : Setup) (fs : List Function) (w : World) (holds : InvariantHolds setup fs w) (a : Attempt) (key : List ℕ) (value : Value) (writer : IsWriter setup fs (values_only w.store) w.store.fences (records w) a key value) where
  abbrev Old : Store
  Old = old setup fs w holds a key value writer

  abbrev New : Store
  New = new setup fs w holds a key value writer

  abbrev V : Version
  V = next_version a key value

  abbrev Fences : List KeyFence
  Fences = w.store.fences

  abbrev Now : List (Live Body)
  Now = records w

  abbrev n : ℕ
  n = length w.log

  abbrev Behind : List (Live Body)
  Behind = upto a.cursor Now

  abbrev Its : InvocationState
  Its = invocation_state setup fs Old a.path Behind

  abbrev Standing : List Version
  Standing = versions_with_cursor a.cursor Old.versions

  -- In the same form as the facts of a writer.

  count : length Standing ≡ a.free_writes
  count = as_many setup fs Old Fences n Now (live_under w.log) holds.sound a key value writer

  kept_point : (q : List ℕ) (xs : List (Live Body)) → Tail xs Now → AreFenced Fences (marked_reads q xs) → invocation_state setup fs New q xs ≡ invocation_state setup fs Old q xs
  kept_point q xs t fenced = point_kept setup fs w holds a key value writer q xs t fenced

  -- so many free operations of an invocation are decided
  pub safe_at : (q : List ℕ) (xs : List (Live Body)) (m : ℕ) → Tail xs Now → (invocation_state setup fs Old q xs).begun ≡ true → length (with_free_answers fs Old xs q (invocation_state setup fs Old q xs) m) ≡ m + length (invocation_state setup fs Old q xs).answers → IsSafe V Old (invocation_state setup fs Old q xs) m
  safe_at q xs m t begun long = record { low = λ mode. reads_below setup fs w holds a key value writer q xs t begun mode; few = λ mode. at_cursor }
    where
      decided_here : (st : InvocationState) (records_of : List (Live Body)) → st ≡ Its → length (with_free_answers fs Old records_of a.path st m) ≡ m + length st.answers → m ≤ length Standing
      decided_here st records_of same long =
          let mode = ap (λ (st : InvocationState). st.mode) same ∙ its_mode setup fs Old Fences n Now (live_under w.log) holds.sound a key value writer in
          let there_too : length (with_free_answers fs Old Behind a.path Its m) ≡ m + length Its.answers =
          subst (λ st. length (with_free_answers fs Old Behind a.path st m) ≡ m + length st.answers) same (ap length (same_more_in_W fs Old Behind records_of a.path st m mode) ∙ long) in
          few_decided setup fs Old Fences n Now (live_under w.log) holds.sound a key value writer m there_too

      at_cursor : (invocation_state setup fs Old q xs).cursor ≡ a.cursor → m < suc a.free_writes
      at_cursor cursor =
          let it = is_its setup fs Old Fences n Now (live_under w.log) holds.sound a key value writer q xs t begun cursor in
          let le = decided_here (invocation_state setup fs Old a.path xs) xs (ap (λ q. invocation_state setup fs Old q xs) (sym it.path_is) ∙ it.same) (subst (λ q. length (with_free_answers fs Old xs q (invocation_state setup fs Old q xs) m) ≡ m + length (invocation_state setup fs Old q xs).answers) it.path_is long) in
          omega (arith, le, count)

  -- The log stays sound, with its fences.

  own_cursor : (x : Live Body) (xs : List (Live Body)) (q : List ℕ) (i : ℕ) → Tail (x ∷ xs) Now → step_of x.holds ≡ Some (q, i) → (invocation_state setup fs Old q (x ∷ xs)).cursor ≡ x.seq
  own_cursor x xs q i t step = at (stands setup fs Old q (x ∷ xs)) (does setup fs Old x xs q (fit_tail setup fs Old (x ∷ xs) Now t holds.sound.fit).0)
    where
      at : (next : InvocationState) → Does setup fs Old x.seq x.holds xs q next → next.cursor ≡ x.seq
      at next (apart other f is) = let e = other (q, i) step in let s = same_itself q in let no_way : true ≡ false = sym s ∙ e in cc
      at next (began body may is) = ap (λ (p : InvocationState). p.cursor) is
      at next (operates j s f reaches is) = ap (λ (p : InvocationState). p.cursor) is
      at next (ends j outcome body asks is) = ap (λ (p : InvocationState). p.cursor) is

  -- at another record
  may_stand_kept : (x : Live Body) (xs : List (Live Body)) (q : List ℕ) (st : InvocationState) (result : Option Outcome) (mode : Mode) (vs : List Version) → st.mode ≡ mode → (st.cursor ≡ a.cursor → ⊥) → MayStand fs Old (x ∷ xs) q st result mode vs → MayStand fs New (x ∷ xs) q st result mode vs
  may_stand_kept x xs q st None W vs is other stand =
      writes_kept V Old fs (x ∷ xs) q st vs (λ n le. record { low = λ m. let no_way : W ≡ R = sym is ∙ m in cc; few = λ m e. absurd (other e) }) stand
  may_stand_kept x xs q st None R vs is other stand = stand
  may_stand_kept x xs q st None T vs is other stand = stand
  may_stand_kept x xs q st (Some outcome) mode vs is other stand = stand

  stand_other : (x : Live Body) (xs : List (Live Body)) (s : Option (List ℕ × ℕ)) (vs : List Version) → Tail (x ∷ xs) Now → step_of x.holds ≡ s → (x.seq ≡ a.cursor → ⊥) → (vs ≡ []) ⊎ FencedBehind Fences s (x ∷ xs) → StandAt setup fs Old (x ∷ xs) s vs → StandAt setup fs New (x ∷ xs) s vs
  stand_other x xs None vs t step other fenced stand = stand
  stand_other x xs (Some s) vs t step other (inl none) stand = subst (StandAt setup fs New (x ∷ xs) (Some s)) (sym none) (stand_none setup fs New (x ∷ xs) (Some s))
  stand_other x xs (Some s) vs t step other (inr fenced) stand =
      subst (λ (st : InvocationState). MayStand fs New (x ∷ xs) s.0 st st.result st.mode vs) (sym (kept_point s.0 (x ∷ xs) t fenced))
      (let st = invocation_state setup fs Old s.0 (x ∷ xs) in may_stand_kept x xs s.0 st st.result st.mode vs refl (λ e. other (sym (own_cursor x xs s.0 s.1 t step) ∙ e)) stand)

  -- at the version's own
  stand_own : MayStand fs New Behind a.path Its Its.result Its.mode (V ∷ Standing)
  stand_own =
      let under = live_under w.log in
      let mode = its_mode setup fs Old Fences n Now under holds.sound a key value writer in
      let safe : (m : ℕ) → m ≤ length Standing → IsSafe V Old Its m =
      λ m le. record { low = λ r. let no_way : W ≡ R = sym mode ∙ r in cc; few = λ r e. omega (arith, le, count) } in
      let all : AreNextWrites fs New Behind a.path Its (V ∷ Standing) = (
        ap suc (sym count),
        ap (asked_at fs a.path Its) (more_kept V Old fs Behind a.path Its (length Standing) (safe (length Standing) (omega arith))) ∙ asks_more setup fs Old Fences n Now under holds.sound a key value writer,
        writes_kept V Old fs Behind a.path Its Standing safe (its_writes setup fs Old Fences n Now under holds.sound a key value writer),
      ) in
      subst (λ r. MayStand fs New Behind a.path Its r Its.mode (V ∷ Standing)) (sym writer.follows.unended)
      (subst (λ m. MayStand fs New Behind a.path Its None m (V ∷ Standing)) (sym mode) all)

  -- the record at the cursor
  its_record : (x : Live Body) (xs : List (Live Body)) → Tail (x ∷ xs) Now → x.seq ≡ a.cursor → (i : ℕ) × ((step_of x.holds ≡ Some (a.path, i)) × (x ∷ xs ≡ Behind))
  its_record x xs t e =
      let under = live_under w.log in
      let on = stood setup fs Old Fences n Now under holds.sound a key value writer in
      let one = one_record x on.on xs on.behind n Now under t (on_tail setup fs Old Fences n Now under holds.sound a key value writer) (e ∙ sym (on_seq setup fs Old Fences n Now under holds.sound a key value writer)) in
      let first : x ≡ on.on = cc in
      (on.index, (ap (λ (x : Live Body). step_of x.holds) first ∙ on.step, one ∙ sym (behind_is setup fs Old Fences n Now under holds.sound a key value writer)))

  stand_at_it : (x : Live Body) (xs : List (Live Body)) → Tail (x ∷ xs) Now → x.seq ≡ a.cursor → StandAt setup fs New (x ∷ xs) (step_of x.holds) (V ∷ versions_with_cursor x.seq Old.versions)
  stand_at_it x xs t e =
      let r = its_record x xs t e in
      subst (λ s. StandAt setup fs New (x ∷ xs) s (V ∷ versions_with_cursor x.seq Old.versions)) (sym r.1.0)
      (subst (λ c. StandAt setup fs New (x ∷ xs) (Some (a.path, r.0)) (V ∷ versions_with_cursor c Old.versions)) (sym e)
      (subst (λ xs. StandAt setup fs New xs (Some (a.path, r.0)) (V ∷ Standing)) (sym r.1.1)
      (subst (λ (st : InvocationState). MayStand fs New Behind a.path st st.result st.mode (V ∷ Standing)) (sym (kept_point a.path Behind (upto_tail a.cursor Now) writer.follows.fenced)) stand_own)))

  stand_kept : (x : Live Body) (xs : List (Live Body)) → Tail (x ∷ xs) Now → (versions_with_cursor x.seq Old.versions ≡ []) ⊎ FencedBehind Fences (step_of x.holds) (x ∷ xs) → StandAt setup fs Old (x ∷ xs) (step_of x.holds) (versions_with_cursor x.seq Old.versions) → StandAt setup fs New (x ∷ xs) (step_of x.holds) (versions_with_cursor x.seq New.versions)
  stand_kept x xs t fenced stand = at (eqb x.seq a.cursor) refl
    where
      at : (u : Bool) → eqb x.seq a.cursor ≡ u → StandAt setup fs New (x ∷ xs) (step_of x.holds) (cond u (V ∷ versions_with_cursor x.seq Old.versions) (versions_with_cursor x.seq Old.versions))
      at true e = stand_at_it x xs t (eqb-true x.seq a.cursor e)
      at false e = stand_other x xs (step_of x.holds) (versions_with_cursor x.seq Old.versions) t refl (λ same. let yes = eq-eqb x.seq a.cursor same in let no_way : true ≡ false = sym yes ∙ e in cc) fenced stand

  all_kept : (xs : List (Live Body)) → Tail xs Now → AllFenced Old Fences xs → AllMayFollow setup fs Old xs → AllMayFollow setup fs New xs
  all_kept [] t fenced fit = tt
  all_kept (x ∷ xs) t fenced fit =
      (fits_kept setup fs w holds a key value writer x xs t x.holds refl fenced.0 fit.0, stand_kept x xs t fenced.1 fit.1, all_kept xs (shorter t) fenced.2 fit.2)

  fenced_kept : (xs : List (Live Body)) → Tail xs Now → AllFenced Old Fences xs → AllFenced New Fences xs
  fenced_kept [] t fenced = tt
  fenced_kept (x ∷ xs) t fenced = (fenced.0, at (eqb x.seq a.cursor) refl fenced.1, fenced_kept xs (shorter t) fenced.2)
    where
      at : (u : Bool) → eqb x.seq a.cursor ≡ u → (versions_with_cursor x.seq Old.versions ≡ []) ⊎ FencedBehind Fences (step_of x.holds) (x ∷ xs) → (cond u (V ∷ versions_with_cursor x.seq Old.versions) (versions_with_cursor x.seq Old.versions) ≡ []) ⊎ FencedBehind Fences (step_of x.holds) (x ∷ xs)
      at false e was = was
      at true e was =
          let r = its_record x xs t (eqb-true x.seq a.cursor e) in
          inr (subst (λ s. FencedBehind Fences s (x ∷ xs)) (sym r.1.0) (subst (λ xs. AreFenced Fences (marked_reads a.path xs)) (sym r.1.1) writer.follows.fenced))

  -- What was sent and stored, and the attempts.

  step_kept : (path : List ℕ) (condition : Option Cond) (body : Body) → IsStepRecord setup fs Old Fences n Now path condition body → IsStepRecord setup fs New Fences n Now path condition body
  step_kept path condition body step = record {
    c = step.c;
    within = step.within;
    place = step.place ∙ sym (ap (λ (st : InvocationState). place_condition path st.place) (framed setup fs w holds a key value writer path (upto step.c Now)));
    next = next_kept setup fs w holds a key value writer (upto step.c Now) body (upto_tail step.c Now) step.next;
  }

  kind_kept : (condition : Option Cond) (body : Body) (s : Option (List ℕ × ℕ)) → SentOfKind setup fs Old Fences n Now condition body s → SentOfKind setup fs New Fences n Now condition body s
  kind_kept condition body (Some s) kind = step_kept s.0 condition body kind
  kind_kept condition (b.Submit p f args) None kind = kind
  kind_kept condition _ None kind = tt

  asked_kept : (r : LogRecord Body) → IsSentRecord setup fs Old Fences n Now r → IsSentRecord setup fs New Fences n Now r
  asked_kept r asked = record { own = asked.own; kind = kind_kept r.condition r.holds (step_of r.holds) asked.kind }

  owed_kept : (s : NamedValue) → IsAskedWrite setup fs Old Fences n Now s → IsAskedWrite setup fs New Fences n Now s
  owed_kept s owed = record {
    c = owed.c;
    within = owed.within;
    key = owed.key;
    index = owed.index;
    place = owed.place ∙ sym (ap (λ (st : InvocationState). st.place) (framed setup fs w holds a key value writer s.name.path (upto owed.c Now)));
    asks = logs_here setup fs w holds a key value writer s.name.path (upto owed.c Now) owed.index (k.Op (o.Write owed.key s.value)) (upto_tail owed.c Now) owed.asks;
  }

  -- a write that is late has another key, or another cursor
  still_none : (q : List ℕ) (c j : ℕ) → c < fence q Fences → version_value q c j Old.versions ≡ None → version_value q c j (V ∷ Old.versions) ≡ None
  still_none q c j late none = at (bytes_eq q key && eqb c a.cursor && eqb j (suc a.free_writes)) refl
    where
      at : (t : Bool) → (bytes_eq q key && eqb c a.cursor && eqb j (suc a.free_writes)) ≡ t → cond t (Some value) (version_value q c j Old.versions) ≡ None
      at false e = none
      at true e =
          let parts = and_parts (bytes_eq q key && eqb c a.cursor) (eqb j (suc a.free_writes)) e in
          let both = and_parts (bytes_eq q key) (eqb c a.cursor) parts.0 in
          let above : c < fence key Fences = subst (λ k. c < fence k Fences) (same_key q key both.0) late in
          let same = eqb-true c a.cursor both.1 in
          let le = writer.unfenced in absurd (let h : ⊥ = omega (arith, above, same, le) in h)

  stored_kept : (path : List ℕ) (st : InvocationState) (answers : List Answer) (t : Bool) → KnowsStored fs Old path st answers t → KnowsStored fs New path st answers t
  stored_kept path st answers false knows = tt
  stored_kept path st answers true knows = knows

  late_kept : (path : List ℕ) (st : InvocationState) (answers : List Answer) (free : ℕ) (t : Bool) → KnowsLate fs Old Fences path st answers free t → KnowsLate fs New Fences path st answers free t
  late_kept path st answers free false knows = tt
  late_kept path st answers free true knows =
      (knows.0, knows.1, knows.2, knows.3, still_none knows.0 st.cursor (suc free) knows.5 knows.4, knows.5)

  follows_kept : (c : ℕ) (t : Attempt) → Follows setup fs Old Fences (upto c Now) t → Follows setup fs New Fences (upto c Now) t
  follows_kept c t f =
      let behind = upto c Now in
      let st = invocation_state setup fs Old t.path behind in
      let e = kept_point t.path behind (upto_tail c Now) f.fenced in
      let safe = safe_at t.path behind f.free (upto_tail c Now) f.begun (ap length (sym f.answers) ∙ f.decided) in
      record {
        begun = ap (λ (st : InvocationState). st.begun) e ∙ f.begun;
        unended = ap (λ (st : InvocationState). st.result) e ∙ f.unended;
        cursor = ap (λ (st : InvocationState). st.cursor) e ∙ f.cursor;
        place = ap (λ (st : InvocationState). st.place) e ∙ f.place;
        mode = ap (λ (st : InvocationState). st.mode) e ∙ f.mode;
        function = ap (λ (st : InvocationState). st.function) e ∙ f.function;
        args = ap (λ (st : InvocationState). st.args) e ∙ f.args;
        transaction = ap (λ (st : InvocationState). st.transaction) e ∙ f.transaction;
        fenced = f.fenced;
        free = f.free;
        answers = f.answers ∙ sym (more_kept V Old fs behind t.path st f.free safe) ∙ ap (λ st. with_free_answers fs New behind t.path st f.free) (sym e);
        decided = f.decided ∙ ap (λ (st : InvocationState). f.free + length st.answers) (sym e);
        counts = f.counts;
        stored = subst (λ st. KnowsStored fs New t.path st t.answers t.stored) (sym e) (stored_kept t.path st t.answers t.stored f.stored);
        late = subst (λ st. KnowsLate fs New Fences t.path st t.answers f.free t.late) (sym e) (late_kept t.path st t.answers f.free t.late f.late);
        stored_late = f.stored_late;
      }

  following_kept : (t : Attempt) → IsFollowing setup fs Old Fences n Now w.positions t → IsFollowing setup fs New Fences n Now w.positions t
  following_kept t is = record { within = is.within; seen = is.seen; follows = ⊎_elim (λ fresh. inl fresh) (λ f. inr (follows_kept t.cursor t f)) is.follows }

  put_keeps : InvariantHolds setup fs (with_version_put V w)
  put_keeps = record {
    sound = record {
      fit = all_kept Now here holds.fenced holds.sound.fit;
      placed = (
        subst (λ c. IsTrue (is_live c Now)) (on_seq setup fs Old Fences n Now (live_under w.log) holds.sound a key value writer)
            (let on = stood setup fs Old Fences n Now (live_under w.log) holds.sound a key value writer in tail_live on.on on.behind Now (on_tail setup fs Old Fences n Now (live_under w.log) holds.sound a key value writer)),
        holds.sound.placed,
      );
    };
    fenced = fenced_kept Now here holds.fenced;
    sent = each_weaker (IsSentRecord setup fs Old Fences n Now) (IsSentRecord setup fs New Fences n Now) asked_kept w.sent holds.sent;
    ordered = holds.ordered;
    owed = each_weaker (IsAskedWrite setup fs Old Fences n Now) (IsAskedWrite setup fs New Fences n Now) owed_kept w.store.named holds.owed;
    attempts = each_weaker (IsFollowing setup fs Old Fences n Now w.positions) (IsFollowing setup fs New Fences n Now w.positions) following_kept w.attempts holds.attempts;
    floor_is = holds.floor_is;
    positions = holds.positions;
  }

pub writer_of : (setup : Setup) (fs : List Function) (w : World) (a : Attempt) (key : List ℕ) (value : Value) → InvariantHolds setup fs w → MayPut fs w a key value → IsWriter setup fs (values_only w.store) w.store.fences (records w) a key value
writer_of setup fs w a key value holds may = at following.follows
  where
    following : IsFollowing setup fs (values_only w.store) w.store.fences (length w.log) (records w) w.positions a
    following = among_each (IsFollowing setup fs (values_only w.store) w.store.fences (length w.log) (records w) w.positions) a w.attempts may.among holds.attempts

    at : IsFresh a ⊎ Follows setup fs (values_only w.store) w.store.fences (upto a.cursor (records w)) a → IsWriter setup fs (values_only w.store) w.store.fences (records w) a key value
    at (inl fresh) = absurd (let none = fresh.place in let some = may.begun in let h : ⊥ = omega (arith, none, some) in h)
    at (inr follows) = record { follows = follows; mode_is = may.mode; asks = may.asked; new = may.new; unfenced = may.unfenced }

pub versions_keep : PuttingKeepsInvariant
versions_keep setup fs w a key value holds may = put_keeps setup fs w holds a key value (writer_of setup fs w a key value holds may)

-- What was decided stays.
pub decided_reads_stay : DecidedReadsStay
decided_reads_stay setup fs w a key value holds may path c fenced =
    let writer = writer_of setup fs w a key value holds may in
    let behind = upto c (records w) in
    record {
      stands = kept_point setup fs w holds a key value writer path behind (upto_tail c (records w)) fenced;
      frees = λ n begun long. more_kept (next_version a key value) (values_only w.store) fs behind path (invocation_state setup fs (values_only w.store) path behind) n (safe_at setup fs w holds a key value writer path behind n (upto_tail c (records w)) begun long);
    }
