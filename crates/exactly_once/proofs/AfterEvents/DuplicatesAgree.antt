-- Duplicates agree: the answers of an attempt are the first ones that its invocation has decided.
use Rattle.std.proofs.Common.{◌≡◌, ◌⊎◌, inl, inr, ⊎_elim, ℕ, zero, suc, ◌+◌, ◌-◌, ◌<◌, ◌≤◌, Bool, true, false, cond, leb, List, [], ◌∷◌, length, Option, Some, None, refl, sym, ap, ◌∙◌, subst, arith}
use Rattle.std.specs.Prelude.{drop}
use Rattle.std.specs.List.{AllByRecursion}
use Rattle.std.proofs.lemmas.Bool.{cases_lt}
use Rattle.lb_base.specs.declared.value.Mode.{Mode}
use Rattle.lb_base.specs.declared.value.Mode.TheVariants.{R, W, T}
use Rattle.boki_types.specs.declared.body.Body.{Body}
use Rattle.boki_types.specs.declared.operation.Answer.{Answer}
use Rattle.boki_types.specs.declared.plan.Setup.{Setup}
use Rattle.boki_types.specs.declared.program.Function.{Function}
use Rattle.boki_model.specs.Live.{Live, upto}
use Rattle.boki_model.specs.Bodies.{step_of}
use Rattle.boki_model.specs.Writes.{Store, versions_at}
use Rattle.boki_machine.specs.Attempt.{Attempt}
use Rattle.boki_machine.specs.Decided.{InvocationState, invocation_state, asked_at, free_answer, add_answer, own_answer, with_free_answers, oldest, first_decided_answers}
use Rattle.exactly_once.specs.Induction.SoundLogs.{free_operations_to}
use Rattle.exactly_once.specs.Induction.Invariant.{World, records, IsFresh, Follows, IsFollowing, InvariantHolds}
use Rattle.exactly_once.specs.FurtherLaws.Words.{values_only}
use Rattle.exactly_once.proofs.Log.HistoryTails.{Tail, here, there, longer, shorter}
use Rattle.exactly_once.proofs.Log.LiveRecords.{live_under}
use Rattle.exactly_once.proofs.Invocations.NextRecord.{stands, Does, does, apart, began, operates, ends}
use Rattle.exactly_once.proofs.Invocations.SamePlace.{same_more, cursor_upto, under_upto, fit_upto}
use Rattle.exactly_once.proofs.Invocations.FreeAnswers.{on}
use Rattle.exactly_once.proofs.Asking.FreeAtCursor.{no_free, free_between, frees_most}
use Rattle.exactly_once.proofs.Invocations.InitAndCursor.{upto_tail, fit_tail}
use Rattle.exactly_once.proofs.OldVersions.StepOrigins.{IsLogged, origin}

-- The first elements.

module _ {A : Type 0} where
  pub tail_shorter : (us vs : List A) → Tail us vs → length us ≤ length vs
  tail_shorter us vs here = omega arith
  tail_shorter us (v ∷ vs) (there t) = let le = tail_shorter us vs t in omega (arith, le)

  pub none_dropped : (us : List A) → drop 0 us ≡ us
  none_dropped [] = refl
  none_dropped (u ∷ us) = refl

  pub oldest_tail : (us vs : List A) → Tail us vs → oldest (length us) vs ≡ us
  oldest_tail us vs here = ap (λ n. drop n us) (let e : length us - length us ≡ 0 = omega arith in e) ∙ none_dropped us
  oldest_tail us (v ∷ vs) (there t) =
      let le = tail_shorter us vs t in
      ap (λ n. drop n (v ∷ vs)) (let e : suc (length vs) - length us ≡ suc (length vs - length us) = omega (arith, le) in e) ∙ oldest_tail us vs t

  pub tail_none : (vs : List A) → Tail [] vs
  tail_none [] = here
  tail_none (v ∷ vs) = there (tail_none vs)

pub and_tail : (o : Option Answer) (l : List Answer) → Tail l (add_answer o l)
and_tail None l = here
and_tail (Some x) l = there here

more_tail : (fs : List Function) (store : Store) (xs : List (Live Body)) (p : List ℕ) (st : InvocationState) (d n m : ℕ) → m ≡ d + n → Tail (with_free_answers fs store xs p st n) (with_free_answers fs store xs p st m)
more_tail fs store xs p st zero n m e = subst (λ m. Tail (with_free_answers fs store xs p st n) (with_free_answers fs store xs p st m)) (let same : n ≡ m = omega (arith, e) in same) here
more_tail fs store xs p st (suc d) n m e =
    subst (λ m. Tail (with_free_answers fs store xs p st n) (with_free_answers fs store xs p st m)) (let same : suc (d + n) ≡ m = omega (arith, e) in same)
    (longer (more_tail fs store xs p st d n (d + n) refl)
    (and_tail (free_answer store xs st.cursor (length (with_free_answers fs store xs p st (d + n)) - length st.answers) st.mode (asked_at fs p st (with_free_answers fs store xs p st (d + n)))) (with_free_answers fs store xs p st (d + n))))

-- what is decided of an invocation that has begun
pub decided_begun : (setup : Setup) (fs : List Function) (store : Store) (xs : List (Live Body)) (p : List ℕ) (n : ℕ) → (stands setup fs store p xs).begun ≡ true → let st = stands setup fs store p xs in first_decided_answers setup fs store xs p n ≡ oldest n (with_free_answers fs store xs p st (n - length st.answers))
decided_begun setup fs store xs p n begun =
    let st = stands setup fs store p xs in
    ap (λ t. cond t (oldest n (with_free_answers fs store xs p st (n - length st.answers))) []) begun

-- and nothing is of one that hasn't
pub unbegun_decides : (setup : Setup) (fs : List Function) (store : Store) (xs : List (Live Body)) (p : List ℕ) (n : ℕ) → (stands setup fs store p xs).begun ≡ false → first_decided_answers setup fs store xs p n ≡ []
unbegun_decides setup fs store xs p n new =
    let st = stands setup fs store p xs in
    ap (λ t. cond t (oldest n (with_free_answers fs store xs p st (n - length st.answers))) []) new

-- An attempt that follows its invocation, and what the invocation decides later.

module _ (setup : Setup) (fs : List Function) (w : World) (holds : InvariantHolds setup fs w) (a : Attempt) (within : a.cursor ≤ length w.log) (f : Follows setup fs (values_only w.store) w.store.fences (upto a.cursor (records w)) a) where
  abbrev store : Store
  store = values_only w.store

  abbrev now : List (Live Body)
  now = records w

  abbrev behind : List (Live Body)
  behind = upto a.cursor now

  abbrev its : InvocationState
  its = stands setup fs store a.path behind

  long : length (on fs store behind a.path its f.free) ≡ f.free + length its.answers
  long = ap length (sym f.answers) ∙ f.decided

  -- its free answers are the same over all records, and up to any place from its cursor on
  over_all : (n : ℕ) → with_free_answers fs store now a.path its n ≡ with_free_answers fs store behind a.path its n
  over_all n = same_more setup fs store a.path a.cursor its n now (let e = f.cursor in omega (arith, e))

  over_upto : (c n : ℕ) → a.cursor ≤ c → with_free_answers fs store (upto c now) a.path its n ≡ with_free_answers fs store behind a.path its n
  over_upto c n le = sym (same_more setup fs store a.path c its n now (let e = f.cursor in omega (arith, e, le))) ∙ over_all n

  -- where a logged operation is of this place, the attempt's free operations come before it
  few : (c i : ℕ) (l : IsLogged fs store w.store.fences (upto c now) a.path its i) → a.cursor ≤ c → f.free ≤ free_operations_to i its
  few c i l le = at (cases_lt (free_operations_to i its) f.free)
    where
      by_mode : (mode : Mode) → its.mode ≡ mode → free_operations_to i its < f.free → ⊥
      by_mode W e lt =
          let most = frees_most setup fs store a.path a.cursor behind (under_upto setup fs store a.path a.cursor (length w.log) now (live_under w.log)) (fit_upto setup fs store a.path a.cursor now holds.sound.fit) f.begun f.unended f.cursor e f.free long in
          let all = l.logs.asks.reaches.all_versions e in
          let same = ap (λ c. versions_at c store.versions) f.cursor in omega (arith, most, all, same, lt)
      by_mode R e lt = no_free fs store (upto c now) a.path its w.store.fences (free_operations_to i its) l.ask (λ w. let no_way : R ≡ W = sym e ∙ w in cc) l.logs.asks.asked l.logs.may_log
          (free_between fs store (upto c now) a.path its (free_operations_to i its) f.free lt (ap length (over_upto c f.free le) ∙ long))
      by_mode T e lt = no_free fs store (upto c now) a.path its w.store.fences (free_operations_to i its) l.ask (λ w. let no_way : T ≡ W = sym e ∙ w in cc) l.logs.asks.asked l.logs.may_log
          (free_between fs store (upto c now) a.path its (free_operations_to i its) f.free lt (ap length (over_upto c f.free le) ∙ long))

      at : (free_operations_to i its < f.free) ⊎ (f.free ≤ free_operations_to i its) → f.free ≤ free_operations_to i its
      at (inl lt) = absurd (by_mode its.mode refl lt)
      at (inr le) = le

  -- behind any later records its invocation stands where it did, or has all its answers
  record Goes (xs : List (Live Body)) : Type 0 where
    pub begun : (stands setup fs store a.path xs).begun ≡ true
    pub either : (stands setup fs store a.path xs ≡ its) ⊎ Tail a.answers (stands setup fs store a.path xs).answers

  upto_between : (c : ℕ) (xs zs : List (Live Body)) → Tail (upto c zs) xs → Tail xs zs → upto c xs ≡ upto c zs
  upto_between c xs zs t here = refl
  upto_between c xs (z ∷ zs) t (there s) = at (upto_between c xs zs) (leb z.seq c) refl t
    where
      at : (Tail (upto c zs) xs → Tail xs zs → upto c xs ≡ upto c zs) → (b : Bool) → leb z.seq c ≡ b → Tail (cond b (z ∷ zs) (upto c zs)) xs → upto c xs ≡ cond b (z ∷ zs) (upto c zs)
      at ih false e t = ih t s
      at ih true e t = absurd (let one = tail_shorter (z ∷ zs) xs t in let two = tail_shorter xs zs s in let h : ⊥ = omega (arith, one, two) in h)

  moved : (p q : InvocationState) → p ≡ q → (q ≡ its) ⊎ Tail a.answers q.answers → (p ≡ its) ⊎ Tail a.answers p.answers
  moved p q e (inl same) = inl (e ∙ same)
  moved p q e (inr t) = inr (subst (λ (st : InvocationState). Tail a.answers st.answers) (sym e) t)

  keeps : (x : Live Body) (xs : List (Live Body)) → stands setup fs store a.path (x ∷ xs) ≡ stands setup fs store a.path xs → Goes xs → Goes (x ∷ xs)
  keeps x xs e ih = record { begun = ap (λ (st : InvocationState). st.begun) e ∙ ih.begun; either = moved (stands setup fs store a.path (x ∷ xs)) (stands setup fs store a.path xs) e ih.either }

  goes : (xs : List (Live Body)) → Tail behind xs → Tail xs now → Goes xs
  goes xs here s = record { begun = f.begun; either = inl refl }
  goes (x ∷ xs) (there t) s = at (goes xs t (shorter s)) (stands setup fs store a.path (x ∷ xs)) refl (does setup fs store x xs a.path (fit_tail setup fs store (x ∷ xs) now s holds.sound.fit).0)
    where
      -- the operations behind it, up to a record of the index
      up_to : (i : ℕ) → step_of x.holds ≡ Some (a.path, i) → Goes xs → Tail a.answers (with_free_answers fs store xs a.path (stands setup fs store a.path xs) (free_operations_to i (stands setup fs store a.path xs)))
      up_to i step ih = ⊎_elim (λ same. from_here same) (λ t. longer t (more_tail fs store xs a.path (stands setup fs store a.path xs) (free_operations_to i (stands setup fs store a.path xs)) 0 (free_operations_to i (stands setup fs store a.path xs)) (omega arith))) ih.either
        where
          from_here : stands setup fs store a.path xs ≡ its → Tail a.answers (with_free_answers fs store xs a.path (stands setup fs store a.path xs) (free_operations_to i (stands setup fs store a.path xs)))
          from_here same =
              let o = origin setup fs w holds x xs a.path i s step in
              let there_same : invocation_state setup fs store a.path (upto o.c now) ≡ its = o.same ∙ same in
              let low : a.cursor ≤ o.c =
              (let le = cursor_upto setup fs store a.path o.c (length w.log) now (live_under w.log) holds.sound.fit in
              let e : (stands setup fs store a.path (upto o.c now)).cursor ≡ a.cursor = ap (λ (st : InvocationState). st.cursor) there_same ∙ f.cursor in omega (arith, le, e)) in
              let logged : IsLogged fs store w.store.fences (upto o.c now) a.path its i =
              ⊎_elim (λ may. absurd (let no_way : true ≡ false = sym (ap (λ (st : InvocationState). st.begun) there_same ∙ f.begun) ∙ may.new in cc)) (λ l. subst (λ st. IsLogged fs store w.store.fences (upto o.c now) a.path st i) there_same l) o.logs in
              let le = few o.c i logged low in
              let over : with_free_answers fs store xs a.path its f.free ≡ with_free_answers fs store behind a.path its f.free =
              same_more setup fs store a.path a.cursor its f.free xs (let e = f.cursor in omega (arith, e)) ∙ ap (λ ys. with_free_answers fs store ys a.path its f.free) (upto_between a.cursor xs now t (shorter s)) in
              subst (λ st. Tail a.answers (with_free_answers fs store xs a.path st (free_operations_to i st))) (sym same)
              (subst (λ l. Tail l (with_free_answers fs store xs a.path its (free_operations_to i its))) (over ∙ sym f.answers)
              (more_tail fs store xs a.path its (free_operations_to i its - f.free) f.free (free_operations_to i its) (omega (arith, le))))

      at : Goes xs → (next : InvocationState) → stands setup fs store a.path (x ∷ xs) ≡ next → Does setup fs store x.seq x.holds xs a.path next → Goes (x ∷ xs)
      at ih next e (apart other finish is) = keeps x xs (e ∙ is) ih
      at ih next e (began body may is) = absurd (let no_way : true ≡ false = sym ih.begun ∙ may.new in cc)
      at ih next e (operates i step finish reaches is) = record {
        begun = ap (λ (st : InvocationState). st.begun) (e ∙ is) ∙ ih.begun;
        either = inr (subst (λ (st : InvocationState). Tail a.answers st.answers) (sym (e ∙ is)) (longer (up_to i step ih) (and_tail (own_answer store xs x.seq x.holds) (with_free_answers fs store xs a.path (stands setup fs store a.path xs) (free_operations_to i (stands setup fs store a.path xs))))));
      }
      at ih next e (ends i outcome body asks is) = record {
        begun = ap (λ (st : InvocationState). st.begun) (e ∙ is) ∙ ih.begun;
        either = inr (subst (λ (st : InvocationState). Tail a.answers st.answers) (sym (e ∙ is)) (up_to i (ap step_of body) ih));
      }

  agrees : a.answers ≡ first_decided_answers setup fs store now a.path (length a.answers)
  agrees =
      let g = goes now (upto_tail a.cursor now) here in
      ⊎_elim here_still (λ t. gone_on t) g.either ∙ sym (decided_begun setup fs store now a.path (length a.answers) g.begun)
    where
      all_now : List Answer
      all_now =
          let st = stands setup fs store a.path now in
          oldest (length a.answers) (with_free_answers fs store now a.path st (length a.answers - length st.answers))

      here_still : stands setup fs store a.path now ≡ its → a.answers ≡ all_now
      here_still same =
          let count : length a.answers - length its.answers ≡ f.free = (let d = f.decided in omega (arith, d)) in
          subst (λ (st : InvocationState). a.answers ≡ oldest (length a.answers) (with_free_answers fs store now a.path st (length a.answers - length st.answers))) (sym same)
          (subst (λ n. a.answers ≡ oldest (length a.answers) (with_free_answers fs store now a.path its n)) (sym count)
          (sym (ap (oldest (length a.answers)) (over_all f.free ∙ sym f.answers) ∙ oldest_tail a.answers a.answers here)))

      gone_on : Tail a.answers (stands setup fs store a.path now).answers → a.answers ≡ all_now
      gone_on t =
          let st = stands setup fs store a.path now in
          let none : length a.answers - length st.answers ≡ 0 = (let le = tail_shorter a.answers st.answers t in omega (arith, le)) in
          subst (λ n. a.answers ≡ oldest (length a.answers) (with_free_answers fs store now a.path st n)) (sym none) (sym (oldest_tail a.answers st.answers t))

module _ (setup : Setup) (fs : List Function) (w : World) (holds : InvariantHolds setup fs w) where
  abbrev Agrees : Attempt → Type 0
  Agrees a = a.answers ≡ first_decided_answers setup fs (values_only w.store) (records w) a.path (length a.answers)

  fresh_agrees : (a : Attempt) → IsFresh a → Agrees a
  fresh_agrees a fresh =
      let st = invocation_state setup fs (values_only w.store) a.path (records w) in
      subst (λ answers. answers ≡ first_decided_answers setup fs (values_only w.store) (records w) a.path (length answers)) (sym fresh.answers)
      (at st.begun (oldest_tail [] (with_free_answers fs (values_only w.store) (records w) a.path st (0 - length st.answers)) (tail_none _)))
    where
      at : {l : List Answer} (begun : Bool) → l ≡ [] → [] ≡ cond begun l []
      at true e = sym e
      at false e = refl

  pub all_agree : (attempts : List Attempt) → AllByRecursion (IsFollowing setup fs (values_only w.store) w.store.fences (length w.log) (records w) w.positions) attempts → AllByRecursion Agrees attempts
  all_agree [] all = tt
  all_agree (a ∷ attempts) all = (⊎_elim (λ fresh. fresh_agrees a fresh) (λ f. agrees setup fs w holds a all.0.within f) all.0.follows, all_agree attempts all.1)
