-- Beyond the cursor of an attempt that may put in a version, its invocation has no step record; and no invocation of mode R
-- stands at or above it.
use Rattle.std.proofs.Common.{◌≡◌, ◌⊎◌, inl, inr, ⊎_elim, ℕ, ◌<◌, ◌≤◌, Bool, true, false, cond, leb, List, [], ◌∷◌, length, Some, None, refl, sym, ap, ◌∙◌, arith}
use Rattle.std.specs.Prelude.{is_some}
use Rattle.std.proofs.lemmas.Bool.{cases_lt}
use Rattle.lb_base.specs.declared.value.Value.{Value}
use Rattle.lb_base.specs.declared.value.Mode.TheVariants.{R, W}
use Rattle.boki_types.specs.declared.body.Body.{Body}
use Rattle.boki_types.specs.declared.plan.Setup.{Setup}
use Rattle.boki_types.specs.declared.program.Function.{Function}
use Rattle.boki_model.specs.Live.{Live, upto}
use Rattle.boki_model.specs.Bodies.{step_of}
use Rattle.boki_model.specs.Modes.{result_of, mode_after}
use Rattle.boki_model.specs.Writes.{Store}
use Rattle.boki_machine.specs.Attempt.{Attempt}
use Rattle.boki_machine.specs.Decided.{InvocationState, invocation_state}
use Rattle.exactly_once.specs.Induction.SoundLogs.{AllMayFollow}
use Rattle.exactly_once.specs.FurtherLaws.StepRecords.{is_step_of, step_seqnums}
use Rattle.exactly_once.specs.Induction.Invariant.{World, records, InvariantHolds}
use Rattle.exactly_once.specs.FurtherLaws.Words.{values_only}
use Rattle.exactly_once.proofs.Log.HistoryTails.{Tail, here, there, longer, shorter}
use Rattle.exactly_once.proofs.Log.LiveRecords.{Under, under_tail, live_under, tail_below, tails_by_seq}
use Rattle.exactly_once.proofs.Log.MapChanges.{same_itself}
use Rattle.exactly_once.proofs.Log.ModesAndFloors.{tails_exclude, ended_later}
use Rattle.exactly_once.proofs.Invocations.NextRecord.{stands, cursor_within, result_is}
use Rattle.exactly_once.proofs.Invocations.SamePlace.{IsSamePlace, same_point, skipped}
use Rattle.exactly_once.proofs.Invocations.InitAndCursor.{compare_tails, upto_tail, not_leb, one_record, fit_tail, HasInit, has_init, ended_stays}
use Rattle.exactly_once.proofs.OldVersions.StepOrigins.{origin}
use Rattle.exactly_once.proofs.Invocations.RecordAtPlace.{step_is as step_is_at}
use Rattle.exactly_once.proofs.OldVersions.Writers.{IsWriter, its, its_mode, logs_apart}

-- The first step record of an invocation above a seqnum.

pub record FirstAbove (setup : Setup) (fs : List Function) (store : Store) (p : List ℕ) (c : ℕ) (all ys : List (Live Body)) : Type 0 where
  pub step : Live Body
  pub rest : List (Live Body)
  pub tail : Tail (step ∷ rest) ys
  pub index : ℕ
  pub step_is : step_of step.holds ≡ Some (p, index)
  pub same : stands setup fs store p rest ≡ stands setup fs store p (upto c all)

module _ (setup : Setup) (fs : List Function) (store : Store) (p : List ℕ) (c : ℕ) (all : List (Live Body)) where
  pub first_above : (ys : List (Live Body)) → upto c ys ≡ upto c all → IsSamePlace p c ys ⊎ FirstAbove setup fs store p c all ys
  first_above [] e = inl refl
  first_above (y ∷ ys) e = at (first_above ys) (leb y.seq c) refl e
    where
      later : FirstAbove setup fs store p c all ys → FirstAbove setup fs store p c all (y ∷ ys)
      later f = record { step = f.step; rest = f.rest; tail = there f.tail; index = f.index; step_is = f.step_is; same = f.same }

      below_it : leb y.seq c ≡ true → IsSamePlace p c (y ∷ ys)
      below_it t = ap (λ b. length (step_seqnums p (cond b (y ∷ ys) (upto c ys)))) t

      above_it : leb y.seq c ≡ false → upto c ys ≡ upto c all → IsSamePlace p c ys → (b : Bool) → is_step_of p (step_of y.holds) ≡ b → IsSamePlace p c (y ∷ ys) ⊎ FirstAbove setup fs store p c all (y ∷ ys)
      above_it t e same true is =
          let s = step_is_at p (step_of y.holds) is in
          inr (record { step = y; rest = ys; tail = here; index = s.0; step_is = s.1; same = same_point setup fs store p c ys same ∙ ap (stands setup fs store p) e })
      above_it t e same false is =
          inl (ap (λ b. length (step_seqnums p (cond b (y ∷ ys) (upto c ys)))) t ∙ same ∙ sym (ap (λ b. length (cond b (y.seq ∷ step_seqnums p ys) (step_seqnums p ys))) is))

      at : (upto c ys ≡ upto c all → IsSamePlace p c ys ⊎ FirstAbove setup fs store p c all ys) → (t : Bool) → leb y.seq c ≡ t → cond t (y ∷ ys) (upto c ys) ≡ upto c all → IsSamePlace p c (y ∷ ys) ⊎ FirstAbove setup fs store p c all (y ∷ ys)
      at ih true t e = inl (below_it t)
      at ih false t e = ⊎_elim (λ same. above_it t e same (is_step_of p (step_of y.holds)) refl) (λ f. inr (later f)) (ih e)

-- where there are as many up to c as there are, none stands above it
pub none_above : (p : List ℕ) (c i : ℕ) (x : Live Body) (xs : List (Live Body)) (n : ℕ) (ys : List (Live Body)) → Under n ys → IsSamePlace p c ys → Tail (x ∷ xs) ys → step_of x.holds ≡ Some (p, i) → c < x.seq → ⊥
none_above p c i x xs n ys under same here step lt =
    let s = skipped p c x xs (not_leb x.seq c lt) same in
    let is : is_step_of p (step_of x.holds) ≡ true = ap (is_step_of p) step ∙ same_itself p in
    let no_way : true ≡ false = sym is ∙ s.no_step in cc
none_above p c i x xs n (y ∷ ys) under same (there t) step lt =
    let above = tail_below n x y xs ys under t in
    none_above p c i x xs under.0 ys under.3 (skipped p c y ys (not_leb y.seq c (omega (arith, above, lt))) same).rest t step lt

module _ (setup : Setup) (fs : List Function) (w : World) (holds : InvariantHolds setup fs w) (a : Attempt) (key : List ℕ) (value : Value) (writer : IsWriter setup fs (values_only w.store) w.store.fences (records w) a key value) where
  abbrev store : Store
  store = values_only w.store

  abbrev now : List (Live Body)
  now = records w

  abbrev n : ℕ
  n = length w.log

  under : Under n now
  under = live_under w.log

  abbrev at_it : InvocationState
  at_it = its setup fs store w.store.fences n now under holds.sound a key value writer

  pub no_later : IsSamePlace a.path a.cursor now
  no_later = ⊎_elim (λ same. same) (λ f. absurd (above f)) (first_above setup fs store a.path a.cursor now now refl)
    where
      above : FirstAbove setup fs store a.path a.cursor now now → ⊥
      above f =
          let o = origin setup fs w holds f.step f.rest a.path f.index f.tail f.step_is in
          let same : invocation_state setup fs store a.path (upto o.c now) ≡ at_it = o.same ∙ f.same in
          ⊎_elim
          (λ may. let no_way : true ≡ false = sym (ap (λ (st : InvocationState). st.begun) same ∙ writer.follows.begun) ∙ may.new in cc)
          (λ l. logs_apart setup fs store w.store.fences n now under holds.sound a key value writer a.path (upto o.c now) f.index l.ask (upto_tail o.c now) l.logs (ap (λ (st : InvocationState). st.cursor) same ∙ writer.follows.cursor)) o.logs

  pub unended_now : result_of a.path now ≡ None
  unended_now =
      sym (result_is setup fs store now a.path holds.sound.fit)
      ∙ ap (λ (st : InvocationState). st.result) (same_point setup fs store a.path a.cursor now no_later) ∙ writer.follows.unended

  -- an invocation of mode R stands below the cursor, at any time
  pub reads_below : (q : List ℕ) (ys : List (Live Body)) → Tail ys now → (stands setup fs store q ys).begun ≡ true → (stands setup fs store q ys).mode ≡ R → (stands setup fs store q ys).cursor < a.cursor
  reads_below q ys t begun mode = by_order (cases_lt hq.init.seq hp.init.seq) (cases_lt hp.init.seq hq.init.seq)
    where
      fit_ys : AllMayFollow setup fs store ys
      fit_ys = fit_tail setup fs store ys now t holds.sound.fit

      its_tail : Tail (upto a.cursor now) now
      its_tail = upto_tail a.cursor now

      hq : HasInit setup fs store q ys (stands setup fs store q ys)
      hq = has_init setup fs store q n ys (under_tail ys n now under t) fit_ys begun

      hp : HasInit setup fs store a.path (upto a.cursor now) at_it
      hp = has_init setup fs store a.path n (upto a.cursor now) (under_tail (upto a.cursor now) n now under its_tail) (fit_tail setup fs store (upto a.cursor now) now its_tail holds.sound.fit) writer.follows.begun

      tq : Tail (hq.init ∷ hq.behind) now
      tq = longer hq.tail t

      tp : Tail (hp.init ∷ hp.behind) now
      tp = longer hp.tail its_tail

      mode_q : mode_after setup.mode hq.behind ≡ R
      mode_q = hq.mode_is ∙ mode

      mode_p : mode_after setup.mode hp.behind ≡ W
      mode_p = hp.mode_is ∙ its_mode setup fs store w.store.fences n now under holds.sound a key value writer

      ended_first : hq.init.seq < hp.init.seq → (stands setup fs store q ys).cursor < a.cursor
      ended_first lt =
          let u = under_tail (hp.init ∷ hp.behind) n now under tp in
          let r = tails_by_seq hq.init hp.init hq.behind hp.behind n now under tq tp lt in
          let ended = tails_exclude setup.mode q R W hq.init hq.behind hp.behind u.0 hq.holds_is u.3 mode_q mode_p tt r in
          let low = hp.low in
          let cursor = writer.follows.cursor in
          let first = u.1 in
          ⊎_elim
          (λ s. let le = cursor_within setup fs store u.0 ys q (under_tail ys u.0 hp.behind u.3 s) fit_ys in omega (arith, le, first, low, cursor))
          (λ s.
          let le = cursor_within setup fs store u.0 hp.behind q u.3 (fit_tail setup fs store hp.behind ys s fit_ys) in
          let same = ap (λ (st : InvocationState). st.cursor) (ended_stays setup fs store q hp.behind ys s fit_ys ended) in omega (arith, le, same, first, low, cursor))
          (compare_tails ys hp.behind now t (shorter tp))

      ended_other : hp.init.seq < hq.init.seq → ⊥
      ended_other lt =
          let u = under_tail (hq.init ∷ hq.behind) n now under tq in
          let r = tails_by_seq hp.init hq.init hp.behind hq.behind n now under tp tq lt in
          let ended = ended_later a.path hq.behind now (shorter tq) (tails_exclude setup.mode a.path W R hp.init hp.behind hq.behind u.0 hp.holds_is u.3 mode_p mode_q tt r) in
          let no_way : false ≡ true = ap is_some (sym unended_now) ∙ ended in cc

      one : hq.init.seq ≡ hp.init.seq → ⊥
      one e =
          let same = one_record hq.init hp.init hq.behind hp.behind n now under tq tp e in
          let rest : hq.behind ≡ hp.behind = cc in
          let no_way : R ≡ W = sym mode_q ∙ ap (mode_after setup.mode) rest ∙ mode_p in cc

      by_order : (hq.init.seq < hp.init.seq) ⊎ (hp.init.seq ≤ hq.init.seq) → (hp.init.seq < hq.init.seq) ⊎ (hq.init.seq ≤ hp.init.seq) → (stands setup fs store q ys).cursor < a.cursor
      by_order (inl lt) other = ended_first lt
      by_order (inr le) (inl lt) = absurd (ended_other lt)
      by_order (inr le) (inr ge) = absurd (one (omega (arith, le, ge)))
