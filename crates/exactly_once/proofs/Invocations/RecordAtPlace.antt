-- The record at an attempt's place, as its engine sees it: what lies behind it is the same in the whole log, and its invocation
-- is there where the attempt is.
use Rattle.std.proofs.Common.{◌≡◌, ℕ, suc, ◌<◌, ◌≤◌, Bool, true, false, cond, eqb, leb, ◌&&◌, List, [], ◌∷◌, length, Option, Some, None, ⊎_elim, refl, sym, ap, ◌∙◌, subst, arith}
use Rattle.std.specs.List.{AllByRecursion}
use Rattle.std.proofs.lemmas.Bool.{eqb-true, eq-eqb, cases_order}
use Rattle.lb_base.specs.Path.{IsPath}
use Rattle.boki_types.specs.declared.body.Body.{Body}
use Rattle.boki_types.specs.declared.plan.Setup.{Setup}
use Rattle.boki_types.specs.declared.program.Function.{Function}
use Rattle.boki_model.specs.Live.{LogRecord, Live, has_tag, count, meets_condition, live, upto}
use Rattle.boki_model.specs.Reads.{nth}
use Rattle.boki_model.specs.Bodies.{step_tag, step_of}
use Rattle.boki_model.specs.Writes.{Store}
use Rattle.boki_model.proofs.Logs.{upto_here, upto_skip, upto-upto}
use Rattle.boki_machine.specs.Decided.{InvocationState, with_free_answers}
use Rattle.exactly_once.specs.Induction.SoundLogs.{AllMayFollow}
use Rattle.exactly_once.specs.FurtherLaws.StepRecords.{IsWellFormed, is_step_of, step_seqnums}
use Rattle.exactly_once.specs.Induction.Invariant.{marked_reads}
use Rattle.exactly_once.proofs.Log.LiveRecords.{Under, upto_whole}
use Rattle.exactly_once.proofs.Log.MapChanges.{same_key, same_itself}
use Rattle.exactly_once.proofs.Invocations.NextRecord.{stands, Does, does, apart, began, operates, ends}
use Rattle.exactly_once.proofs.Log.StepRecords.{own_step}
use Rattle.exactly_once.proofs.Invocations.SamePlace.{IsSamePlace, same_point, same_marks, same_more, steps_fewer, under_upto, cursor_upto, fit_upto, place_is}

-- The record at a place.

module _ {A : Type 0} (tag : ℕ) where
  pub record IsFound (n : ℕ) (xs : List (Live A)) (place : ℕ) (x : Live A) : Type 0 where
    pub behind : List (Live A)
    pub m : ℕ
    pub seq_is : x.seq ≡ suc m
    pub within : x.seq ≤ n
    pub cut : upto x.seq xs ≡ x ∷ behind
    pub below : upto m xs ≡ behind
    pub tagged : has_tag tag x.tags ≡ true
    pub place_is : count tag behind ≡ place

  pub found : (n : ℕ) (xs : List (Live A)) (place : ℕ) (x : Live A) → Under n xs → nth tag place xs ≡ Some x → IsFound n xs place x
  found n [] place x under is = cc
  found n (y ∷ ys) place x under is = at (found under.0 ys place x under.3) (has_tag tag y.tags) refl (eqb place (count tag ys)) refl is
    where
      own : y ≡ x → has_tag tag y.tags ≡ true → eqb place (count tag ys) ≡ true → IsFound n (y ∷ ys) place x
      own same tagged e = subst (IsFound n (y ∷ ys) place) same (record {
        behind = ys;
        m = under.0;
        seq_is = under.1;
        within = omega (arith, under.1, under.2);
        cut = upto_here y.seq y ys (omega arith);
        below = upto_skip under.0 y ys (omega (arith, under.1)) ∙ upto_whole under.0 under.0 ys under.3 (omega arith);
        tagged = tagged;
        place_is = sym (eqb-true place (count tag ys) e);
      })

      later : IsFound under.0 ys place x → IsFound n (y ∷ ys) place x
      later f = record {
        behind = f.behind;
        m = f.m;
        seq_is = f.seq_is;
        within = omega (arith, f.within, under.2);
        cut = upto_skip x.seq y ys (omega (arith, f.within, under.1)) ∙ f.cut;
        below = upto_skip f.m y ys (omega (arith, f.within, f.seq_is, under.1)) ∙ f.below;
        tagged = f.tagged;
        place_is = f.place_is;
      }

      at : (nth tag place ys ≡ Some x → IsFound under.0 ys place x) → (t : Bool) → has_tag tag y.tags ≡ t → (u : Bool) → eqb place (count tag ys) ≡ u → cond (t && u) (Some y) (nth tag place ys) ≡ Some x → IsFound n (y ∷ ys) place x
      at ih true e true f is = own (let same : y ≡ x = cc in same) e f
      at ih true e false f is = later (ih is)
      at ih false e u f is = later (ih is)

  -- where no record has the first place, there is none
  pub none_found : (xs : List (Live A)) → nth tag 0 xs ≡ None → count tag xs ≡ 0
  none_found [] is = refl
  none_found (y ∷ ys) is = at (none_found ys) (has_tag tag y.tags) (eqb 0 (count tag ys)) refl is
    where
      at : (nth tag 0 ys ≡ None → count tag ys ≡ 0) → (t u : Bool) → eqb 0 (count tag ys) ≡ u → cond (t && u) (Some y) (nth tag 0 ys) ≡ None → cond t (suc (count tag ys)) (count tag ys) ≡ 0
      at ih true true f is = let no_way : Some y ≡ None = is in cc
      at ih true false f is = let same : eqb 0 (count tag ys) ≡ true = eq-eqb 0 (count tag ys) (sym (ih is)) in let no_way : true ≡ false = sym same ∙ f in cc
      at ih false u f is = ih is

-- An invocation's step records are those with its step tag.

abbrev pub IsTagged : List ℕ → Live Body → Type 0
IsTagged p x = has_tag (step_tag p) x.tags ≡ is_step_of p (step_of x.holds)

pub all_tagged : (p : List ℕ) → IsPath p → (log : List (LogRecord Body)) → AllByRecursion IsWellFormed log → AllByRecursion (IsTagged p) (live log)
all_tagged p path [] own = tt
all_tagged p path (r ∷ log) own = at (meets_condition r.condition (live log)) (all_tagged p path log own.1)
  where
    at : (t : Bool) → AllByRecursion (IsTagged p) (live log) → AllByRecursion (IsTagged p) (cond t (record { seq = suc (length log); tags = r.tags; holds = r.holds } ∷ live log) (live log))
    at true rest = (own_step p path r.holds r.tags own.0.tags own.0.paths, rest)
    at false rest = rest

pub tagged_upto : (p : List ℕ) (c : ℕ) (xs : List (Live Body)) → AllByRecursion (IsTagged p) xs → AllByRecursion (IsTagged p) (upto c xs)
tagged_upto p c [] all = tt
tagged_upto p c (x ∷ xs) all = elim (leb x.seq c) as (λ t. AllByRecursion (IsTagged p) (cond t (x ∷ xs) (upto c xs))) [ true ↦ all | false ↦ tagged_upto p c xs all.1 ]

pub count_steps : (p : List ℕ) (xs : List (Live Body)) → AllByRecursion (IsTagged p) xs → count (step_tag p) xs ≡ length (step_seqnums p xs)
count_steps p [] all = refl
count_steps p (x ∷ xs) all = ap (λ t. cond t (suc (count (step_tag p) xs)) (count (step_tag p) xs)) all.0 ∙ at (is_step_of p (step_of x.holds)) (count_steps p xs all.1)
  where
    at : (t : Bool) → count (step_tag p) xs ≡ length (step_seqnums p xs) → cond t (suc (count (step_tag p) xs)) (count (step_tag p) xs) ≡ length (cond t (x.seq ∷ step_seqnums p xs) (step_seqnums p xs))
    at true ih = ap suc ih
    at false ih = ih

pub step_is : (p : List ℕ) (s : Option (List ℕ × ℕ)) → is_step_of p s ≡ true → (i : ℕ) × (◌≡◌ {A = Option (List ℕ × ℕ)} s (Some (p, i)))
step_is p None is = let no_way : false ≡ true = is in cc
step_is p (Some s) is = (s.1, λ j. Some (sym (same_key p s.0 is) j, s.1))

-- an invocation without step records has not begun
pub none_begun : (setup : Setup) (fs : List Function) (store : Store) (p : List ℕ) (xs : List (Live Body)) → AllMayFollow setup fs store xs → (stands setup fs store p xs).begun ≡ true → 0 < length (step_seqnums p xs)
none_begun setup fs store p xs fit begun = let some = ends_begun xs fit begun in let same = place_is setup fs store p xs fit in omega (arith, some, same)
  where
    ends_begun : (xs : List (Live Body)) → AllMayFollow setup fs store xs → (stands setup fs store p xs).begun ≡ true → 0 < (stands setup fs store p xs).place
    ends_begun [] fit begun = let no_way : false ≡ true = begun in cc
    ends_begun (x ∷ xs) fit begun = by (ends_begun xs fit.2) (stands setup fs store p (x ∷ xs)) begun (does setup fs store x xs p fit.0)
      where
        by : ((stands setup fs store p xs).begun ≡ true → 0 < (stands setup fs store p xs).place) → (next : InvocationState) → next.begun ≡ true → Does setup fs store x.seq x.holds xs p next → 0 < next.place
        by ih next begun (apart other finish is) = subst (λ (st : InvocationState). 0 < st.place) (sym is) (ih (ap (λ (st : InvocationState). st.begun) (sym is) ∙ begun))
        by ih next begun (began body may is) = subst (λ (st : InvocationState). 0 < st.place) (sym is) (omega arith)
        by ih next begun (operates i step finish reaches is) = subst (λ (st : InvocationState). 0 < st.place) (sym is) (omega arith)
        by ih next begun (ends i outcome body asks is) = subst (λ (st : InvocationState). 0 < st.place) (sym is) (omega arith)

-- What an engine sees at the place of an invocation.

module _ (setup : Setup) (fs : List Function) (store : Store) (n : ℕ) (now : List (Live Body)) (under : Under n now) (fit : AllMayFollow setup fs store now) (p : List ℕ) (tags : AllByRecursion (IsTagged p) now) (pos : ℕ) where
  pub record IsRecorded (place : ℕ) (x : Live Body) : Type 0 where
    pub behind : List (Live Body)
    pub m : ℕ
    pub seq_is : x.seq ≡ suc m
    pub seen : x.seq ≤ pos
    pub cut : upto x.seq now ≡ x ∷ behind
    pub below : upto m now ≡ behind
    pub seen_below : upto m (upto pos now) ≡ behind
    pub index : ℕ
    pub step : ◌≡◌ {A = Option (List ℕ × ℕ)} (step_of x.holds) (Some (p, index))
    pub place_is : length (step_seqnums p behind) ≡ place
    pub fits : AllMayFollow setup fs store (x ∷ behind)

  pub recorded : (place : ℕ) (x : Live Body) → nth (step_tag p) place (upto pos now) ≡ Some x → IsRecorded place x
  recorded place x is =
      let view = upto pos now in
      let f : IsFound (step_tag p) pos view place x = found (step_tag p) pos view place x (under_upto setup fs store p pos n now under) is in
      let cut : upto x.seq now ≡ x ∷ f.behind = sym (upto-upto x.seq pos now f.within) ∙ f.cut in
      let below : upto f.m now ≡ f.behind = sym (upto-upto f.m pos now (let e = f.seq_is in let h = f.within in omega (arith, e, h))) ∙ f.below in
      let all : AllByRecursion (IsTagged p) (x ∷ f.behind) = subst (AllByRecursion (IsTagged p)) cut (tagged_upto p x.seq now tags) in
      let step = step_is p (step_of x.holds) (sym all.0 ∙ f.tagged) in
      record {
        behind = f.behind;
        m = f.m;
        seq_is = f.seq_is;
        seen = f.within;
        cut = cut;
        below = below;
        seen_below = f.below;
        index = step.0;
        step = step.1;
        place_is = sym (count_steps p f.behind all.1) ∙ f.place_is;
        fits = subst (AllMayFollow setup fs store) cut (fit_upto setup fs store p x.seq now fit);
      }

  -- and the invocation is there where it was at an earlier seqnum with the same place
  module _ (place : ℕ) (x : Live Body) (r : IsRecorded place x) (c : ℕ) (place_at : (stands setup fs store p (upto c now)).place ≡ place) where
    steps_at : length (step_seqnums p (upto c now)) ≡ place
    steps_at = sym (place_is setup fs store p (upto c now) (fit_upto setup fs store p c now fit)) ∙ place_at

    pub earlier : c ≤ r.m
    earlier = ⊎_elim (λ e. omega (arith, e)) (λ h. ⊎_elim (λ lt. omega (arith, lt)) (λ gt. absurd (never (let e = r.seq_is in omega (arith, gt, e)))) h) (cases_order c r.m)
      where
        never : x.seq ≤ c → ⊥
        never le =
            let own : is_step_of p (step_of x.holds) ≡ true = ap (is_step_of p) r.step ∙ same_itself p in
            let with_free_answers : length (step_seqnums p (x ∷ r.behind)) ≡ suc place = ap (λ t. length (cond t (x.seq ∷ step_seqnums p r.behind) (step_seqnums p r.behind))) own ∙ ap suc r.place_is in
            let fewer : length (step_seqnums p (upto x.seq (upto c now))) ≤ length (step_seqnums p (upto c now)) = steps_fewer p x.seq (upto c now) in
            let same : length (step_seqnums p (upto x.seq (upto c now))) ≡ suc place = ap (λ xs. length (step_seqnums p xs)) (upto-upto x.seq c now le ∙ r.cut) ∙ with_free_answers in
            let at = steps_at in
            let no_way : ⊥ = omega (arith, fewer, same, at) in no_way

    upto_behind : upto c r.behind ≡ upto c now
    upto_behind = ap (upto c) (sym r.below) ∙ upto-upto c r.m now earlier

    same_place : IsSamePlace p c r.behind
    same_place = ap (λ xs. length (step_seqnums p xs)) upto_behind ∙ steps_at ∙ sym r.place_is

    pub point_same : stands setup fs store p r.behind ≡ stands setup fs store p (upto c now)
    point_same = same_point setup fs store p c r.behind same_place ∙ ap (stands setup fs store p) upto_behind

    pub marks_same : marked_reads p r.behind ≡ marked_reads p (upto c now)
    marks_same = same_marks setup fs store p c r.behind same_place ∙ ap (marked_reads p) upto_behind

    pub more_same : (k : ℕ) → with_free_answers fs store r.behind p (stands setup fs store p r.behind) k ≡ with_free_answers fs store (upto c now) p (stands setup fs store p (upto c now)) k
    more_same k =
        ap (λ st. with_free_answers fs store r.behind p st k) point_same
        ∙ same_more setup fs store p c (stands setup fs store p (upto c now)) k r.behind (cursor_upto setup fs store p c n now under fit)
        ∙ ap (λ xs. with_free_answers fs store xs p (stands setup fs store p (upto c now)) k) upto_behind
