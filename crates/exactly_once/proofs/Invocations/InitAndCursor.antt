-- Where an invocation stands: the records of its Init and of its cursor.
use Rattle.std.proofs.Common.{◌≡◌, ◌⊎◌, inl, inr, ⊎_elim, ℕ, ◌<◌, ◌≤◌, Bool, true, false, cond, leb, List, [], ◌∷◌, Some, None, refl, sym, ap, ◌∙◌, subst, arith}
use Rattle.std.specs.Prelude.{is_some}
use Rattle.std.proofs.lemmas.Bool.{leb-true, le-leb}
use Rattle.boki_types.specs.declared.body.Body.{Body}
use Rattle.boki_types.specs.declared.body.Body.TheVariants as b
use Rattle.boki_types.specs.declared.plan.Setup.{Setup}
use Rattle.boki_types.specs.declared.program.Function.{Function}
use Rattle.boki_model.specs.Live.{Live, upto}
use Rattle.boki_model.specs.Bodies.{step_of}
use Rattle.boki_model.specs.Modes.{result_of, mode_after}
use Rattle.boki_model.specs.Writes.{Store}
use Rattle.boki_machine.specs.Decided.{InvocationState}
use Rattle.exactly_once.specs.Induction.SoundLogs.{AllMayFollow}
use Rattle.exactly_once.specs.FurtherLaws.ModesAndFloors.{IsEnded}
use Rattle.exactly_once.proofs.Log.HistoryTails.{Tail, here, there, tail_cases}
use Rattle.exactly_once.proofs.Log.LiveRecords.{Under, tail_below, under_tail}
use Rattle.exactly_once.proofs.Invocations.NextRecord.{stands, Does, does, apart, began, operates, ends, unbegun, result_is}

-- Of two parts of a history, one lies behind the other.
pub compare_tails : {A : Type 0} (xs ys zs : List A) → Tail xs zs → Tail ys zs → Tail xs ys ⊎ Tail ys xs
compare_tails xs ys zs here t = inr t
compare_tails xs ys (z ∷ zs) (there s) here = inl (there s)
compare_tails xs ys (z ∷ zs) (there s) (there t) = compare_tails xs ys zs s t

pub upto_tail : (c : ℕ) (xs : List (Live Body)) → Tail (upto c xs) xs
upto_tail c [] = here
upto_tail c (x ∷ xs) = elim (leb x.seq c) as (λ t. Tail (cond t (x ∷ xs) (upto c xs)) (x ∷ xs)) [ true ↦ here | false ↦ there (upto_tail c xs) ]

-- one record at a seqnum
pub one_record : (x y : Live Body) (xs ys : List (Live Body)) (n : ℕ) (zs : List (Live Body)) → Under n zs → Tail (x ∷ xs) zs → Tail (y ∷ ys) zs → x.seq ≡ y.seq → x ∷ xs ≡ y ∷ ys
one_record x y xs ys n zs under s t same = at (compare_tails (x ∷ xs) (y ∷ ys) zs s t)
  where
    at : Tail (x ∷ xs) (y ∷ ys) ⊎ Tail (y ∷ ys) (x ∷ xs) → x ∷ xs ≡ y ∷ ys
    at (inl r) = ⊎_elim (λ e. e) (λ r. absurd (let lt = tail_below n x y xs ys (under_tail (y ∷ ys) n zs under t) r in let h : ⊥ = omega (arith, lt, same) in h)) (tail_cases r)
    at (inr r) = ⊎_elim (λ e. sym e) (λ r. absurd (let lt = tail_below n y x ys xs (under_tail (x ∷ xs) n zs under s) r in let h : ⊥ = omega (arith, lt, same) in h)) (tail_cases r)

-- the records up to the seqnum of one of them end with it
leb-self : (n : ℕ) → leb n n ≡ true
leb-self n = le-leb n n (omega arith)

pub not_leb : (m n : ℕ) → n < m → leb m n ≡ false
not_leb m n lt = at (leb m n) refl
  where
    at : (b : Bool) → leb m n ≡ b → b ≡ false
    at false e = refl
    at true e = absurd (let le = leb-true m n e in let h : ⊥ = omega (arith, le, lt) in h)

pub upto_at : (x : Live Body) (xs : List (Live Body)) (n : ℕ) (zs : List (Live Body)) → Under n zs → Tail (x ∷ xs) zs → upto x.seq zs ≡ x ∷ xs
upto_at x xs n zs under here = ap (λ b. cond b (x ∷ xs) (upto x.seq xs)) (leb-self x.seq)
upto_at x xs n (z ∷ zs) under (there t) =
    let lt = tail_below n x z xs zs under t in
    ap (λ b. cond b (z ∷ zs) (upto x.seq zs)) (not_leb z.seq x.seq lt) ∙ upto_at x xs under.0 zs under.3 t

pub fit_tail : (setup : Setup) (fs : List Function) (store : Store) (xs ys : List (Live Body)) → Tail xs ys → AllMayFollow setup fs store ys → AllMayFollow setup fs store xs
fit_tail setup fs store xs ys here fit = fit
fit_tail setup fs store xs (y ∷ ys) (there t) fit = fit_tail setup fs store xs ys t fit.2

module _ (setup : Setup) (fs : List Function) (store : Store) (q : List ℕ) where
  -- the record at its cursor is its own
  pub record StandsOn (xs : List (Live Body)) : Type 0 where
    pub on : Live Body
    pub behind : List (Live Body)
    pub tail : Tail (on ∷ behind) xs
    pub index : ℕ
    pub step : step_of on.holds ≡ Some (q, index)
    pub seq_is : on.seq ≡ (stands setup fs store q xs).cursor
    pub same : stands setup fs store q xs ≡ stands setup fs store q (on ∷ behind)

  stands_here : (x : Live Body) (xs : List (Live Body)) (i : ℕ) → step_of x.holds ≡ Some (q, i) → x.seq ≡ (stands setup fs store q (x ∷ xs)).cursor → StandsOn (x ∷ xs)
  stands_here x xs i step seq = record { on = x; behind = xs; tail = here; index = i; step = step; seq_is = seq; same = refl }

  pub stands_on : (xs : List (Live Body)) → AllMayFollow setup fs store xs → (stands setup fs store q xs).begun ≡ true → StandsOn xs
  stands_on [] fit begun = cc
  stands_on (x ∷ xs) fit begun = at (stands_on xs fit.2) (stands setup fs store q (x ∷ xs)) refl begun (does setup fs store x xs q fit.0)
    where
      at : ((stands setup fs store q xs).begun ≡ true → StandsOn xs) → (next : InvocationState) → stands setup fs store q (x ∷ xs) ≡ next → next.begun ≡ true → Does setup fs store x.seq x.holds xs q next → StandsOn (x ∷ xs)
      at ih next e begun (apart a f is) =
          let was = ih (ap (λ (p : InvocationState). p.begun) (sym is) ∙ begun) in
          record { on = was.on; behind = was.behind; tail = there was.tail; index = was.index; step = was.step; seq_is = was.seq_is ∙ ap (λ (p : InvocationState). p.cursor) (sym is ∙ sym e); same = e ∙ is ∙ was.same }
      at ih next e begun (began body may is) = stands_here x xs 1 (ap step_of body) (ap (λ (p : InvocationState). p.cursor) (sym is ∙ sym e))
      at ih next e begun (operates i step f r is) = stands_here x xs i step (ap (λ (p : InvocationState). p.cursor) (sym is ∙ sym e))
      at ih next e begun (ends i o body a is) = stands_here x xs i (ap step_of body) (ap (λ (p : InvocationState). p.cursor) (sym is ∙ sym e))

  -- it has an Init, which gave it its mode
  pub record HasInit (xs : List (Live Body)) (st : InvocationState) : Type 0 where
    pub init : Live Body
    pub behind : List (Live Body)
    pub tail : Tail (init ∷ behind) xs
    pub holds_is : init.holds ≡ b.Init q
    pub mode_is : mode_after setup.mode behind ≡ st.mode
    pub low : init.seq ≤ st.cursor

  pub has_init : (n : ℕ) (xs : List (Live Body)) → Under n xs → AllMayFollow setup fs store xs → (stands setup fs store q xs).begun ≡ true → HasInit xs (stands setup fs store q xs)
  has_init n [] under fit begun = cc
  has_init n (x ∷ xs) under fit begun = at (has_init under.0 xs under.3 fit.2) (stands setup fs store q (x ∷ xs)) begun (does setup fs store x xs q fit.0)
    where
      was : (next : InvocationState) → next.mode ≡ (stands setup fs store q xs).mode → (stands setup fs store q xs).cursor ≤ next.cursor → HasInit xs (stands setup fs store q xs) → HasInit (x ∷ xs) next
      was next mode le h = record { init = h.init; behind = h.behind; tail = there h.tail; holds_is = h.holds_is; mode_is = h.mode_is ∙ sym mode; low = let l = h.low in omega (arith, l, le) }

      own : (next : InvocationState) → next.mode ≡ (stands setup fs store q xs).mode → next.cursor ≡ x.seq → HasInit xs (stands setup fs store q xs) → HasInit (x ∷ xs) next
      own next mode cursor h = record { init = h.init; behind = h.behind; tail = there h.tail; holds_is = h.holds_is; mode_is = h.mode_is ∙ sym mode; low = let lt = tail_below n h.init x h.behind xs under h.tail in omega (arith, lt, cursor) }

      at : ((stands setup fs store q xs).begun ≡ true → HasInit xs (stands setup fs store q xs)) → (next : InvocationState) → next.begun ≡ true → Does setup fs store x.seq x.holds xs q next → HasInit (x ∷ xs) next
      at ih next begun (apart a f is) =
          was next (ap (λ (p : InvocationState). p.mode) is) (subst (λ (p : InvocationState). (stands setup fs store q xs).cursor ≤ p.cursor) (sym is) (omega arith)) (ih (ap (λ (p : InvocationState). p.begun) (sym is) ∙ begun))
      at ih next begun (began body may is) = record {
        init = x;
        behind = xs;
        tail = here;
        holds_is = body;
        mode_is = ap (λ (p : InvocationState). p.mode) (sym is);
        low = let e : next.cursor ≡ x.seq = ap (λ (p : InvocationState). p.cursor) is in omega (arith, e);
      }
      at ih next begun (operates i step f r is) = own next (ap (λ (p : InvocationState). p.mode) is) (ap (λ (p : InvocationState). p.cursor) is) (ih r.begun)
      at ih next begun (ends i o body a is) = own next (ap (λ (p : InvocationState). p.mode) is) (ap (λ (p : InvocationState). p.cursor) is) (ih a.reaches.begun)

  -- one that has ended stays where it is
  pub ended_stays : (ys xs : List (Live Body)) → Tail ys xs → AllMayFollow setup fs store xs → IsEnded q ys → stands setup fs store q xs ≡ stands setup fs store q ys
  ended_stays ys xs here fit ended = refl
  ended_stays ys (x ∷ xs) (there t) fit ended = at (ended_stays ys xs t fit.2 ended) (stands setup fs store q (x ∷ xs)) (does setup fs store x xs q fit.0)
    where
      over : stands setup fs store q xs ≡ stands setup fs store q ys → (stands setup fs store q xs).result ≡ None → ⊥
      over same none =
          let r : result_of q ys ≡ None = sym (result_is setup fs store ys q (fit_tail setup fs store ys xs t fit.2)) ∙ ap (λ (p : InvocationState). p.result) (sym same) ∙ none in
          let no_way : false ≡ true = ap is_some (sym r) ∙ ended in cc

      at : stands setup fs store q xs ≡ stands setup fs store q ys → (next : InvocationState) → Does setup fs store x.seq x.holds xs q next → next ≡ stands setup fs store q ys
      at ih next (apart a f is) = is ∙ ih
      at ih next (began body may is) = absurd (over ih (ap (λ (p : InvocationState). p.result) (unbegun setup fs store xs q fit.2 may.new)))
      at ih next (operates i step f r is) = absurd (over ih r.unended)
      at ih next (ends i o body a is) = absurd (over ih a.reaches.unended)
