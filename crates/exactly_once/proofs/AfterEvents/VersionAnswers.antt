-- A version that is put in changes no decided answer, but for the value of a marker that no attempt has adopted.
use Rattle.std.proofs.Common.{◌≡◌, ◌⊎◌, inl, inr, ⊎_elim, ℕ, zero, suc, ◌+◌, ◌-◌, ◌<◌, ◌≤◌, Bool, true, false, cond, eqb, ◌&&◌, List, [], ◌∷◌, length, Option, Some, None, refl, sym, ap, ◌∙◌, subst, arith, length-drop}
use Rattle.std.specs.Prelude.{bytes_eq, is_some, drop}
use Rattle.std.proofs.lemmas.Bool.{cases_lt}
use Rattle.lb_base.specs.declared.value.Value.{Value}
use Rattle.lb_base.specs.declared.value.Mode.{Mode}
use Rattle.lb_base.specs.declared.value.Mode.TheVariants.{R, W, T}
use Rattle.boki_types.specs.declared.body.Body.{Body}
use Rattle.boki_types.specs.declared.body.Body.TheVariants as b
use Rattle.boki_types.specs.declared.operation.Op.{Op}
use Rattle.boki_types.specs.declared.operation.Op.TheVariants as o
use Rattle.boki_types.specs.declared.operation.Ask.{Ask}
use Rattle.boki_types.specs.declared.operation.Ask.TheVariants as k
use Rattle.boki_types.specs.declared.operation.Answer.{Answer}
use Rattle.boki_types.specs.declared.operation.Answer.TheVariants as a
use Rattle.boki_types.specs.declared.plan.Setup.{Setup}
use Rattle.boki_types.specs.declared.program.Function.{Function}
use Rattle.boki_model.specs.Live.{Live, upto}
use Rattle.boki_model.specs.Bodies.{step_of}
use Rattle.boki_model.specs.Writes.{Store, Version, KeyFence, fence, version_value, last_value_below}
use Rattle.boki_model.proofs.Logs.{upto-upto}
use Rattle.boki_machine.specs.Attempt.{Attempt}
use Rattle.boki_machine.specs.Decided.{InvocationState, invocation_state, with_free_answers, asked_at, free_answer, own_answer, add_answer, after_operation, after_step_record, oldest, first_decided_answers, value_or_none, values_below}
use Rattle.exactly_once.specs.Induction.SoundLogs.{MayFollow, Asks}
use Rattle.exactly_once.specs.FurtherLaws.Words.{versions_with_cursor, values_only, IsAmong}
use Rattle.exactly_once.specs.FurtherLaws.StepRecords.{is_step_of}
use Rattle.exactly_once.specs.Induction.Invariant.{World, records, marked_reads, marked_reads_by, AreFenced, AllFenced, FencedBehind, MayLog, InvariantHolds}
use Rattle.boki_model.specs.WriteLaws.{with_version}
use Rattle.exactly_once.specs.Induction.VersionKeeps.{next_version}
use Rattle.exactly_once.specs.FurtherLaws.DecidedAnswers.{is_marker, AnswersStay, all_stay, all_but_one}
use Rattle.exactly_once.proofs.Log.HistoryTails.{Tail, here, shorter}
use Rattle.exactly_once.proofs.Log.LiveRecords.{live_under, under_tail}
use Rattle.exactly_once.proofs.Invocations.SamePlace.{point_apart, marks_apart, same_marks}
use Rattle.exactly_once.proofs.Invocations.FreeAnswers.{on_most, on_least, none_in_T}
use Rattle.exactly_once.proofs.OldVersions.OneVersionMore.{IsSafe, NotInit, more_kept, standing_other}
use Rattle.exactly_once.proofs.Invocations.InitAndCursor.{fit_tail, upto_at, upto_tail}
use Rattle.exactly_once.proofs.Invocations.RecordAtPlace.{step_is}
use Rattle.exactly_once.proofs.OldVersions.Writers.{IsWriter, is_its, on_tail, on_seq, stood}
use Rattle.exactly_once.proofs.OldVersions.NoStepBeyond.{no_later}
use Rattle.exactly_once.proofs.OldVersions.UnmovedInvocations.{point_kept, framed, safe_behind}
use Rattle.exactly_once.proofs.OldVersions.VersionKeeps.{safe_at}
use Rattle.exactly_once.proofs.Attempts.ActingAttempt.{following}
use Rattle.exactly_once.proofs.Asking.OpenTransactions.{same_step}
use Rattle.exactly_once.proofs.Simulation.OperationTurn.{stands_own}
use Rattle.exactly_once.proofs.AfterEvents.CountedOperations.{may, asks_at}
use Rattle.exactly_once.proofs.AfterEvents.DuplicatesAgree.{decided_begun, unbegun_decides}
use Rattle.exactly_once.proofs.AfterEvents.EndedInvocations.{tail_among, marks_tail}

-- fences are there or not
fenced_or : (fences ms : List KeyFence) → AreFenced fences ms ⊎ (AreFenced fences ms → ⊥)
fenced_or fences [] = inl tt
fenced_or fences (m ∷ ms) = at (cases_lt (fence m.key fences) m.at) (fenced_or fences ms)
  where
    at : (fence m.key fences < m.at) ⊎ (m.at ≤ fence m.key fences) → AreFenced fences ms ⊎ (AreFenced fences ms → ⊥) → AreFenced fences (m ∷ ms) ⊎ (AreFenced fences (m ∷ ms) → ⊥)
    at (inl lt) rest = inr (λ all. let le = all.0 in let h : ⊥ = omega (arith, lt, le) in h)
    at (inr le) (inl all) = inl (le, all)
    at (inr le) (inr none) = inr (λ all. none all.1)

-- no version is found where none stands
none_standing : (key : List ℕ) (c j : ℕ) (vs : List Version) → versions_with_cursor c vs ≡ [] → is_some (version_value key c j vs) ≡ false
none_standing key c j [] none = refl
none_standing key c j (v ∷ vs) none = at (bytes_eq key v.key) (eqb c v.cursor) (eqb j v.number) (none_standing key c j vs) none
  where
    at : (s t u : Bool) → (versions_with_cursor c vs ≡ [] → is_some (version_value key c j vs) ≡ false) → cond t (v ∷ versions_with_cursor c vs) (versions_with_cursor c vs) ≡ [] → is_some (cond (s && t && u) (Some v.value) (version_value key c j vs)) ≡ false
    at s true u ih none = let no_way : v ∷ versions_with_cursor c vs ≡ [] = none in cc
    at true false u ih none = ih none
    at false false u ih none = ih none

-- where no free operation is decided at the cursor, none is
stuck : (fs : List Function) (store : Store) (xs : List (Live Body)) (p : List ℕ) (st : InvocationState) → ((ask : Option Ask) → free_answer store xs st.cursor 0 st.mode ask ≡ None) → (n : ℕ) → with_free_answers fs store xs p st n ≡ st.answers
stuck fs store xs p st none zero = refl
stuck fs store xs p st none (suc n) =
    ap (λ l. add_answer (free_answer store xs st.cursor (length l - length st.answers) st.mode (asked_at fs p st l)) l) (stuck fs store xs p st none n)
    ∙ ap (λ m. add_answer (free_answer store xs st.cursor m st.mode (asked_at fs p st st.answers)) st.answers) (let e : length st.answers - length st.answers ≡ 0 = omega arith in e)
    ∙ ap (λ o. add_answer o st.answers) (none (asked_at fs p st st.answers))

none_free : (store : Store) (xs : List (Live Body)) (c : ℕ) (mode : Mode) → (mode ≡ R → ⊥) → versions_with_cursor c store.versions ≡ [] → (ask : Option Ask) → free_answer store xs c 0 mode ask ≡ None
none_free store xs c R not_R none ask = absurd (not_R refl)
none_free store xs c T not_R none ask = none_in_T store xs c 0 ask
none_free store xs c W not_R none (Some (k.Op (o.Write key value))) = ap (λ t. cond t (Some a.Done) None) (none_standing key c 1 store.versions none)
none_free store xs c W not_R none _ = refl

module _ (setup : Setup) (fs : List Function) (w : World) (holds : InvariantHolds setup fs w) (t : Attempt) (key : List ℕ) (value : Value) (writer : IsWriter setup fs (values_only w.store) w.store.fences (records w) t key value) (q : List ℕ) where
  abbrev Old : Store
  Old = values_only w.store

  abbrev V : Version
  V = next_version t key value

  abbrev New : Store
  New = with_version V Old

  abbrev Fences : List KeyFence
  Fences = w.store.fences

  abbrev Now : List (Live Body)
  Now = records w

  abbrev old_at : List (Live Body) → InvocationState
  old_at xs = invocation_state setup fs Old q xs

  abbrev new_at : List (Live Body) → InvocationState
  new_at xs = invocation_state setup fs New q xs

  -- its last step record is a marker that lacks a fence
  record IsOneOff (xs : List (Live Body)) : Type 0 where
    pub x : Live Body
    pub behind : List (Live Body)
    pub tail : Tail (x ∷ behind) Now
    pub index : ℕ
    pub step : step_of x.holds ≡ Some (q, index)
    pub marker : is_marker x.holds ≡ true
    pub earlier : List Answer
    pub was : Answer
    pub becomes : Answer
    pub old_answers : (old_at xs).answers ≡ was ∷ earlier
    pub new_answers : (new_at xs).answers ≡ becomes ∷ earlier
    pub begun : (old_at xs).begun ≡ true
    pub cursor : (old_at xs).cursor ≡ x.seq
    pub mode : (old_at xs).mode ≡ R → ⊥
    pub standing : versions_with_cursor x.seq Old.versions ≡ []
    pub same_marks_at : marked_reads q xs ≡ marked_reads q (x ∷ behind)
    pub unfenced : AreFenced Fences (marked_reads q (x ∷ behind)) → ⊥

  module _ (x : Live Body) (xs : List (Live Body)) (tail : Tail (x ∷ xs) Now) where
    -- a record of another invocation
    other_record : is_step_of q (step_of x.holds) ≡ false → IsOneOff xs → IsOneOff (x ∷ xs)
    other_record other one =
        let old_same = point_apart setup fs Old q x xs (step_of x.holds) other in
        let new_same = point_apart setup fs New q x xs (step_of x.holds) other in
        record {
          x = one.x;
          behind = one.behind;
          tail = one.tail;
          index = one.index;
          step = one.step;
          marker = one.marker;
          earlier = one.earlier;
          was = one.was;
          becomes = one.becomes;
          old_answers = ap (λ (st : InvocationState). st.answers) old_same ∙ one.old_answers;
          new_answers = ap (λ (st : InvocationState). st.answers) new_same ∙ one.new_answers;
          begun = ap (λ (st : InvocationState). st.begun) old_same ∙ one.begun;
          cursor = ap (λ (st : InvocationState). st.cursor) old_same ∙ one.cursor;
          mode = λ e. one.mode (sym (ap (λ (st : InvocationState). st.mode) old_same) ∙ e);
          standing = one.standing;
          same_marks_at = marks_apart q x.seq x.holds (marked_reads q xs) other ∙ one.same_marks_at;
          unfenced = one.unfenced;
        }

    module _ (i : ℕ) (step : step_of x.holds ≡ Some (q, i)) (behind_fenced : AreFenced Fences (marked_reads q xs)) (standing : (versions_with_cursor x.seq Old.versions ≡ []) ⊎ AreFenced Fences (marked_reads q (x ∷ xs))) (unfenced : AreFenced Fences (marked_reads q (x ∷ xs)) → ⊥) where
      abbrev st : InvocationState
      st = old_at xs

      -- such a record
      module _ (body : Body) (e : x.holds ≡ body) (p : List ℕ) (j : ℕ) (op : Op) (path : ◌≡◌ {A = Option (List ℕ × ℕ)} (Some (p, j)) (Some (q, i))) (asks : Asks fs Old xs p (invocation_state setup fs Old p xs) j (k.Op op)) where
        its_begun : st.begun ≡ true
        its_begun = subst (λ (s : List ℕ × ℕ). (invocation_state setup fs Old s.0 xs).begun ≡ true) (same_step (p, j) (q, i) path) asks.reaches.begun

        its_asks : Asks fs Old xs q st i (k.Op op)
        its_asks = asks_at setup fs w holds x xs tail q i step its_begun p j (k.Op op) path asks

        never_R : ((c : ℕ) → MayLog Fences R c (k.Op op) → ⊥) → st.mode ≡ R → ⊥
        never_R free mode = free st.cursor (subst (λ m. MayLog Fences m st.cursor (k.Op op)) mode (may setup fs w holds x xs tail q i step its_begun (k.Op op) its_asks))

        abbrev n : ℕ
        n = i - suc (length st.answers)

        one_off :
            is_marker body ≡ true → ((c : ℕ) → MayLog Fences R c (k.Op op) → ⊥) → NotInit V Old fs Fences writer.unfenced body → (was becomes : Answer) → own_answer Old xs x.seq body ≡ Some was → own_answer New xs x.seq body ≡ Some becomes
            → ((store : Store) (d : InvocationState) → after_step_record setup fs store xs q x.seq body i d ≡ after_operation fs store xs q x.seq body i d) → IsOneOff (x ∷ xs)
        one_off marker free not_init was becomes own_old own_new is_operated =
            let old_is : old_at (x ∷ xs) ≡ after_operation fs Old xs q x.seq body i st =
            stands_own setup fs Old x xs q i step ∙ ap (λ body. after_step_record setup fs Old xs q x.seq body i st) e ∙ is_operated Old st in
            let new_is : new_at (x ∷ xs) ≡ after_operation fs New xs q x.seq body i st =
            stands_own setup fs New x xs q i step ∙ ap (λ body. after_step_record setup fs New xs q x.seq body i (new_at xs)) e ∙ is_operated New (new_at xs)
            ∙ ap (after_operation fs New xs q x.seq body i) (point_kept setup fs w holds t key value writer q xs (shorter tail) behind_fenced) in
            let safe : IsSafe V Old st n = safe_behind setup fs w holds t key value writer x xs q i n tail step (subst (NotInit V Old fs Fences writer.unfenced) (sym e) not_init) in
            record {
              x = x;
              behind = xs;
              tail = tail;
              index = i;
              step = step;
              marker = ap is_marker e ∙ marker;
              earlier = with_free_answers fs Old xs q st n;
              was = was;
              becomes = becomes;
              old_answers = ap (λ (st : InvocationState). st.answers) old_is ∙ ap (λ o. add_answer o (with_free_answers fs Old xs q st n)) own_old;
              new_answers = ap (λ (st : InvocationState). st.answers) new_is ∙ ap (λ o. add_answer o (with_free_answers fs New xs q st n)) own_new ∙ ap (λ l. becomes ∷ l) (more_kept V Old fs xs q st n safe);
              begun = ap (λ (st : InvocationState). st.begun) old_is ∙ its_begun;
              cursor = ap (λ (st : InvocationState). st.cursor) old_is;
              mode = λ m. never_R free (sym (ap (λ (st : InvocationState). st.mode) old_is) ∙ m);
              standing = ⊎_elim (λ none. none) (λ all. absurd (unfenced all)) standing;
              same_marks_at = refl;
              unfenced = unfenced;
            }

      -- a record that is no marker leaves the marks, which have their fences
      no_marker : (body : Body) → x.holds ≡ body → marked_reads_by q x.seq body (marked_reads q xs) ≡ marked_reads q xs → IsOneOff (x ∷ xs)
      no_marker body e same = absurd (unfenced (subst (AreFenced Fences) (sym (ap (λ body. marked_reads_by q x.seq body (marked_reads q xs)) e ∙ same)) behind_fenced))

      lacking : (body : Body) → x.holds ≡ body → IsOneOff (x ∷ xs)
      lacking (b.Read p j name) e =
          let fits : MayFollow setup fs Old xs (b.Read p j name) = subst (MayFollow setup fs Old xs) e (fit_tail setup fs Old (x ∷ xs) Now tail holds.sound.fit).0 in
          one_off (b.Read p j name) e p j (o.Read name) (ap step_of (sym e) ∙ step) fits refl (λ c no_way. no_way) tt (a.Value (value_or_none (last_value_below name x.seq 0 Old xs))) (a.Value (value_or_none (last_value_below name x.seq 0 New xs))) refl refl (λ store d. refl)
      lacking (b.ReadGroup p j names) e =
          let fits : MayFollow setup fs Old xs (b.ReadGroup p j names) = subst (MayFollow setup fs Old xs) e (fit_tail setup fs Old (x ∷ xs) Now tail holds.sound.fit).0 in
          one_off (b.ReadGroup p j names) e p j (o.ReadGroup names) (ap step_of (sym e) ∙ step) fits refl (λ c no_way. no_way) tt (a.Values (values_below x.seq 0 Old xs names)) (a.Values (values_below x.seq 0 New xs names)) refl refl (λ store d. refl)
      lacking _ e = no_marker _ e refl

  -- its marks have their fences, or it is such an invocation
  either : (xs : List (Live Body)) → Tail xs Now → AllFenced Old Fences xs → AreFenced Fences (marked_reads q xs) ⊎ IsOneOff xs
  either [] tail all = inl tt
  either (x ∷ xs) tail all = at (either xs (shorter tail) all.2) (is_step_of q (step_of x.holds)) refl
    where
      own : (i : ℕ) → step_of x.holds ≡ Some (q, i) → AreFenced Fences (marked_reads q (x ∷ xs)) ⊎ IsOneOff (x ∷ xs)
      own i step =
          let behind_fenced : AreFenced Fences (marked_reads q xs) = subst (λ s. FencedBehind Fences s xs) step all.0 in
          let standing : (versions_with_cursor x.seq Old.versions ≡ []) ⊎ AreFenced Fences (marked_reads q (x ∷ xs)) = subst (λ s. (versions_with_cursor x.seq Old.versions ≡ []) ⊎ FencedBehind Fences s (x ∷ xs)) step all.1 in
          ⊎_elim (λ f. inl f) (λ none. inr (lacking x xs tail i step behind_fenced standing none x.holds refl)) (fenced_or Fences (marked_reads q (x ∷ xs)))

      at : AreFenced Fences (marked_reads q xs) ⊎ IsOneOff xs → (u : Bool) → is_step_of q (step_of x.holds) ≡ u → AreFenced Fences (marked_reads q (x ∷ xs)) ⊎ IsOneOff (x ∷ xs)
      at ih true e = let s = step_is q (step_of x.holds) e in own s.0 s.1
      at (inl f) false e = inl (subst (AreFenced Fences) (sym (marks_apart q x.seq x.holds (marked_reads q xs) e)) f)
      at (inr one) false e = inr (other_record x xs tail e one)

  -- Where its marks have their fences, each answer stays.

  its_cursor : 0 < t.cursor
  its_cursor =
      let under = live_under w.log in
      let on = stood setup fs Old Fences (length w.log) Now under holds.sound t key value writer in
      let u = under_tail (on.on ∷ on.behind) (length w.log) Now under (on_tail setup fs Old Fences (length w.log) Now under holds.sound t key value writer) in
      let e = on_seq setup fs Old Fences (length w.log) Now under holds.sound t key value writer in
      let first = u.1 in omega (arith, first, e)

  fenced_stay : AreFenced Fences (marked_reads q Now) → (m : ℕ) → length (first_decided_answers setup fs Old Now q m) ≡ m → first_decided_answers setup fs New Now q m ≡ first_decided_answers setup fs Old Now q m
  fenced_stay fenced m count = at st.begun refl
    where
      st : InvocationState
      st = old_at Now

      n : ℕ
      n = m - length st.answers

      answers_of : Store → InvocationState → List Answer
      answers_of store p = oldest m (with_free_answers fs store Now q p (m - length p.answers))

      same : new_at Now ≡ st
      same = point_kept setup fs w holds t key value writer q Now here fenced

      long : st.begun ≡ true → length (with_free_answers fs Old Now q st n) ≡ n + length st.answers
      long begun =
          let l = with_free_answers fs Old Now q st n in
          let count = sym (ap length (decided_begun setup fs Old Now q m begun)) ∙ count in
          let dropped : length (drop (length l - m) l) ≡ length l - (length l - m) = length-drop (length l - m) l in
          let most = on_most fs Old Now q st n in
          let least = on_least fs Old Now q st n in omega (arith, dropped, count, most, least)

      at : (u : Bool) → st.begun ≡ u → first_decided_answers setup fs New Now q m ≡ first_decided_answers setup fs Old Now q m
      at true e =
          let safe : IsSafe V Old st n = safe_at setup fs w holds t key value writer q Now n here e (long e) in
          decided_begun setup fs New Now q m (ap (λ (p : InvocationState). p.begun) same ∙ e)
          ∙ subst (λ (p : InvocationState). answers_of New p ≡ answers_of Old st) (sym same) (ap (oldest m) (more_kept V Old fs Now q st n safe))
          ∙ sym (decided_begun setup fs Old Now q m e)
      at false e =
          unbegun_decides setup fs New Now q m (ap (λ (p : InvocationState). p.begun) same ∙ e)
          ∙ sym (unbegun_decides setup fs Old Now q m e)

  -- Where one lacks its fence, nothing is decided behind it, and no attempt has adopted it.

  module _ (one : IsOneOff Now) where
    -- it is no invocation that the version is of
    elsewhere : one.x.seq ≡ t.cursor → ⊥
    elsewhere e =
        let under = live_under w.log in
        let it = is_its setup fs Old Fences (length w.log) Now under holds.sound t key value writer q Now here one.begun (one.cursor ∙ e) in
        let all : AreFenced Fences (marked_reads t.path Now) = subst (AreFenced Fences) (sym (same_marks setup fs Old t.path t.cursor Now (no_later setup fs w holds t key value writer))) writer.follows.fenced in
        one.unfenced (subst (AreFenced Fences) one.same_marks_at (subst (λ p. AreFenced Fences (marked_reads p Now)) (sym it.path_is) all))

    old_stuck : (n : ℕ) → with_free_answers fs Old Now q (old_at Now) n ≡ (old_at Now).answers
    old_stuck n = stuck fs Old Now q (old_at Now) (none_free Old Now (old_at Now).cursor (old_at Now).mode one.mode (ap (λ c. versions_with_cursor c Old.versions) one.cursor ∙ one.standing)) n

    new_stuck : (n : ℕ) → with_free_answers fs New Now q (new_at Now) n ≡ (new_at Now).answers
    new_stuck n =
        let frames = framed setup fs w holds t key value writer q Now in
        let cursor : (new_at Now).cursor ≡ one.x.seq = ap (λ (st : InvocationState). st.cursor) frames ∙ one.cursor in
        stuck fs New Now q (new_at Now)
        (none_free New Now (new_at Now).cursor (new_at Now).mode (λ e. one.mode (sym (ap (λ (st : InvocationState). st.mode) frames) ∙ e))
        (ap (λ c. versions_with_cursor c New.versions) cursor ∙ standing_other V Old fs one.x.seq elsewhere ∙ one.standing)) n

    unadopted : (b : Attempt) → IsAmong b w.attempts → b.path ≡ q → b.cursor < one.x.seq
    unadopted b among path = at (cases_lt b.cursor one.x.seq)
      where
        under_x : 0 < one.x.seq
        under_x = let u = under_tail (one.x ∷ one.behind) (length w.log) Now (live_under w.log) one.tail in let first = u.1 in omega (arith, first)

        behind_b : one.x.seq ≤ b.cursor → Tail (one.x ∷ one.behind) (upto b.cursor Now)
        behind_b le =
            subst (λ ys. Tail ys (upto b.cursor Now)) (upto-upto one.x.seq b.cursor Now le ∙ upto_at one.x one.behind (length w.log) Now (live_under w.log) one.tail) (upto_tail one.x.seq (upto b.cursor Now))

        at : (b.cursor < one.x.seq) ⊎ (one.x.seq ≤ b.cursor) → b.cursor < one.x.seq
        at (inl lt) = lt
        at (inr le) =
            ⊎_elim (λ fresh. let e = fresh.cursor in omega (arith, e, under_x))
            (λ f. absurd (one.unfenced (marks_tail Fences q (one.x ∷ one.behind) (upto b.cursor Now) (behind_b le) (subst (λ p. AreFenced Fences (marked_reads p (upto b.cursor Now))) path f.fenced))))
            (following setup fs w holds b among).follows

    one_off_stays : AnswersStay setup fs Old New Now w.attempts q
    one_off_stays =
        let frames = framed setup fs w holds t key value writer q Now in
        all_but_one
        (record { x = one.x; among = tail_among one.x one.behind Now one.tail; index = one.index; step = one.step; marker = one.marker; last = one.cursor; unadopted = unadopted })
        one.earlier one.was one.becomes
        (λ k. decided_begun setup fs Old Now q k one.begun ∙ ap (oldest k) (old_stuck (k - length (old_at Now).answers) ∙ one.old_answers))
        (λ k. decided_begun setup fs New Now q k (ap (λ (st : InvocationState). st.begun) frames ∙ one.begun) ∙ ap (oldest k) (new_stuck (k - length (new_at Now).answers) ∙ one.new_answers))

  pub answers_stay : AnswersStay setup fs Old New Now w.attempts q
  answers_stay = ⊎_elim (λ fenced. all_stay (fenced_stay fenced)) (λ one. one_off_stays one) (either Now here holds.fenced)
