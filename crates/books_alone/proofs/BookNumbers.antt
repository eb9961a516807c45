-- The book's numbers: how many of its records stand up to a seqnum.
use Rattle.std.proofs.Common.{◌≡◌, ◌⊎◌, inl, inr, ℕ, zero, suc, ◌<◌, ◌≤◌, Bool, true, false, cond, eqb, leb, List, [], ◌∷◌, length, Option, Some, None, refl, sym, ap, ◌∙◌, subst, arith}
use Rattle.std.specs.Prelude.{unwrap_or}
use Rattle.std.proofs.lemmas.Bool.{leb-true, leb-false, le-leb, lt-leb, eqb-true, eq-eqb, ne_eqb, cases_lt, cases_order}
use Rattle.boki_model.specs.Order.{at_seq}
use Rattle.books_alone.specs.Books.{count_selected, seqnums, count_upto}

-- A count rises at a number that is the book's, and stays at another's.
pub record Rises (f : ℕ → ℕ) (mine : Bool) (s : ℕ) : Type 0 where
  pub before : ℕ
  pub is : s ≡ suc before
  pub step : f s ≡ cond mine (suc (f before)) (f before)

-- Counts compare as the numbers do, where one of these is the book's.

pub rises_fewer : (f : ℕ → ℕ) → ((a c : ℕ) → a ≤ c → f a ≤ f c) → (s a : ℕ) → Rises f true s → a < s → f a < f s
rises_fewer f rising s a r lt = let e = r.is in let g = r.step in let le = rising a r.before (omega (arith, e)) in omega (arith, g, le)

pub leb_rises : (f : ℕ → ℕ) → ((a c : ℕ) → a ≤ c → f a ≤ f c) → (s a : ℕ) → Rises f true s → leb (f s) (f a) ≡ leb s a
leb_rises f rising s a r = at (cases_lt a s)
  where
    at : (a < s) ⊎ (s ≤ a) → leb (f s) (f a) ≡ leb s a
    at (inl lt) = lt-leb (f s) (f a) (rises_fewer f rising s a r lt) ∙ sym (lt-leb s a lt)
    at (inr le) = le-leb (f s) (f a) (rising s a le) ∙ sym (le-leb s a le)

-- two numbers of the book
pub eqb_rises : (f : ℕ → ℕ) → ((a c : ℕ) → a ≤ c → f a ≤ f c) → (s t : ℕ) → Rises f true s → Rises f true t → eqb (f s) (f t) ≡ eqb s t
eqb_rises f rising s t r q = at (cases_order s t)
  where
    at : (s ≡ t) ⊎ ((s < t) ⊎ (t < s)) → eqb (f s) (f t) ≡ eqb s t
    at (inl e) = eq-eqb (f s) (f t) (ap f e) ∙ sym (eq-eqb s t e)
    at (inr (inl lt)) = let le = rises_fewer f rising t s q lt in ne_eqb (f s) (f t) (λ e. omega (arith, le, e)) ∙ sym (ne_eqb s t (λ e. omega (arith, lt, e)))
    at (inr (inr lt)) = let le = rises_fewer f rising s t r lt in ne_eqb (f s) (f t) (λ e. omega (arith, le, e)) ∙ sym (ne_eqb s t (λ e. omega (arith, lt, e)))

-- the book's number and another's
pub eqb_stays : (f : ℕ → ℕ) (s t : ℕ) → Rises f true s → Rises f false t → eqb s t ≡ false
eqb_stays f s t r q = ne_eqb s t (λ e. let b : r.before ≡ q.before = omega (arith, e, r.is, q.is) in let g : f s ≡ f t = ap f e in let h : f r.before ≡ f q.before = ap f b in omega (arith, r.step, q.step, g, h))

-- Counts of numbers.

pub count_more : (qs : List ℕ) (a c : ℕ) → a ≤ c → count_upto a qs ≤ count_upto c qs
count_more [] a c le = omega arith
count_more (q ∷ qs) a c le = at (leb q a) refl (leb q c) refl (count_more qs a c le)
  where
    at : (t : Bool) → leb q a ≡ t → (u : Bool) → leb q c ≡ u → count_upto a qs ≤ count_upto c qs → cond t (suc (count_upto a qs)) (count_upto a qs) ≤ cond u (suc (count_upto c qs)) (count_upto c qs)
    at true e true g ih = omega arith
    at true e false g ih = absurd (let x = leb-true q a e in let y = leb-false q c g in let h : ⊥ = omega (arith, x, y) in h)
    at false e true g ih = omega arith
    at false e false g ih = ih

module _ {X : Type 0} (keep : X → Bool) where
  abbrev pub counts : List X → ℕ → ℕ
  counts log s = count_upto s (seqnums keep log)

  -- a further record changes no count before it
  pub count_new : (r : X) (log : List X) (n : ℕ) → n ≤ length log → counts (r ∷ log) n ≡ counts log n
  count_new r log n le = at (keep r)
    where
      at : (t : Bool) → count_upto n (cond t (suc (length log) ∷ seqnums keep log) (seqnums keep log)) ≡ count_upto n (seqnums keep log)
      at true = rw (lt-leb (suc (length log)) n (omega arith))
      at false = refl

  pub length-seqnums : (log : List X) → length (seqnums keep log) ≡ count_selected keep log
  length-seqnums [] = refl
  length-seqnums (r ∷ log) = at (keep r) (length-seqnums log)
    where
      at : (t : Bool) → length (seqnums keep log) ≡ count_selected keep log → length (cond t (suc (length log) ∷ seqnums keep log) (seqnums keep log)) ≡ cond t (suc (count_selected keep log)) (count_selected keep log)
      at true ih = ap suc ih
      at false ih = ih

  -- from the last record on all are counted
  pub count_all : (log : List X) (n : ℕ) → length log ≤ n → counts log n ≡ count_selected keep log
  count_all [] n le = refl
  count_all (r ∷ log) n le = at (keep r) (count_all log n (omega arith))
    where
      at : (t : Bool) → count_upto n (seqnums keep log) ≡ count_selected keep log → count_upto n (cond t (suc (length log) ∷ seqnums keep log) (seqnums keep log)) ≡ cond t (suc (count_selected keep log)) (count_selected keep log)
      at true ih = rw (le-leb (suc (length log)) n le) (ap suc ih)
      at false ih = ih

  pub count_none : (log : List X) → counts log 0 ≡ 0
  count_none [] = refl
  count_none (r ∷ log) = count_new r log 0 (omega arith) ∙ count_none log

  pub rises_here : (r : X) (log : List X) → Rises (counts (r ∷ log)) (keep r) (suc (length log))
  rises_here r log = record {
    before = length log;
    is = refl;
    step = count_all (r ∷ log) (suc (length log)) (omega arith)
        ∙ ap (λ n. cond (keep r) (suc n) n) (sym (count_new r log (length log) (omega arith) ∙ count_all log (length log) (omega arith)));
  }

  pub rises_new : (r : X) (log : List X) (mine : Bool) (s : ℕ) → s ≤ length log → Rises (counts log) mine s → Rises (counts (r ∷ log)) mine s
  rises_new r log mine s le x = record {
    before = x.before;
    is = x.is;
    step = count_new r log s le ∙ x.step ∙ ap (λ n. cond mine (suc n) n) (sym (count_new r log x.before (let e = x.is in omega (arith, e))));
  }

  -- what rises is within the log
  pub rises_within : (log : List X) (s : ℕ) → Rises (counts log) true s → s ≤ length log
  rises_within log s r = at (cases_lt (length log) s)
    where
      at : (length log < s) ⊎ (s ≤ length log) → s ≤ length log
      at (inl lt) =
          let e = r.is in
          let one = count_all log s (omega arith) in
          let two = count_all log r.before (omega (arith, e)) in
          absurd (let h : ⊥ = omega (arith, r.step, one, two) in h)
      at (inr le) = le

  -- The book's number n on the physical log.

  pub record IsNumbered (log : List X) (n p : ℕ) : Type 0 where
    pub counted : counts log p ≡ n
    pub rises : Rises (counts log) true p

  pub numbered : (log : List X) (n p : ℕ) → at_seq n (seqnums keep log) ≡ Some p → IsNumbered log n p
  numbered [] n p e = cc
  numbered (r ∷ log) n p e = at (numbered log n p) (keep r) refl e
    where
      some_some : (a c : ℕ) → Some a ≡ Some c → a ≡ c
      some_some a c g = cc

      later : IsNumbered log n p → IsNumbered (r ∷ log) n p
      later x = record {
        counted = count_new r log p (rises_within log p x.rises) ∙ x.counted;
        rises = rises_new r log true p (rises_within log p x.rises) x.rises;
      }

      here : (at_seq n (seqnums keep log) ≡ Some p → IsNumbered log n p) → (u : Bool) → keep r ≡ true → eqb n (suc (length (seqnums keep log))) ≡ u → cond u (Some (suc (length log))) (at_seq n (seqnums keep log)) ≡ Some p → IsNumbered (r ∷ log) n p
      here ih true k q g =
          let is = some_some (suc (length log)) p g in
          subst (λ x. IsNumbered (r ∷ log) n x) is
          (record {
            counted =
                count_all (r ∷ log) (suc (length log)) (omega arith) ∙ ap (λ t. cond t (suc (count_selected keep log)) (count_selected keep log)) k
                ∙ ap suc (sym (length-seqnums log)) ∙ sym (eqb-true n (suc (length (seqnums keep log))) q);
            rises = subst (λ t. Rises (counts (r ∷ log)) t (suc (length log))) k (rises_here r log);
          })
      here ih false k q g = later (ih g)

      at : (at_seq n (seqnums keep log) ≡ Some p → IsNumbered log n p) → (t : Bool) → keep r ≡ t → at_seq n (cond t (suc (length log) ∷ seqnums keep log) (seqnums keep log)) ≡ Some p → IsNumbered (r ∷ log) n p
      at ih true k g = here ih (eqb n (suc (length (seqnums keep log)))) k refl g
      at ih false k g = later (ih g)

  not_numbered : {Y : Type 0} (n : ℕ) (ys : List Y) → at_seq n ys ≡ None → (n ≡ 0) ⊎ (length ys < n)
  not_numbered zero ys e = inl refl
  not_numbered (suc n) [] e = inr (omega arith)
  not_numbered (suc n) (y ∷ ys) e = at (not_numbered (suc n) ys) (eqb (suc n) (suc (length ys))) refl e
    where
      some_none : {Y : Type 0} (y : Y) → Some y ≡ None → ⊥
      some_none y g = cc

      more : (suc n ≡ suc (length ys) → ⊥) → (suc n ≡ 0) ⊎ (length ys < suc n) → (suc n ≡ 0) ⊎ (suc (length ys) < suc n)
      more ne (inl g) = inl g
      more ne (inr lt) = inr (let lt = lt in omega (arith, ne, lt))

      at : (at_seq (suc n) ys ≡ None → (suc n ≡ 0) ⊎ (length ys < suc n)) → (t : Bool) → eqb (suc n) (suc (length ys)) ≡ t → cond t (Some y) (at_seq (suc n) ys) ≡ None → (suc n ≡ 0) ⊎ (suc (length ys) < suc n)
      at ih true q g = absurd (some_none y g)
      at ih false q g = more (λ same. let h : ⊥ = cc (eq-eqb (suc n) (suc (length ys)) same) in h) (ih g)

  -- A physical bound that stands for the book's number: the book's records are on the same side of both.
  pub record IsBound (log : List X) (n a : ℕ) : Type 0 where
    pub upto : (s : ℕ) → Rises (counts log) true s → leb (counts log s) n ≡ leb s a
    pub above : (s : ℕ) → Rises (counts log) true s → leb n (counts log s) ≡ leb a s

  -- a seqnum of the book
  bound_numbered : (log : List X) (n p : ℕ) → IsNumbered log n p → IsBound log n p
  bound_numbered log n p x = subst (λ k. IsBound log k p) x.counted (record {
    upto = λ s r. leb_rises (counts log) (count_more (seqnums keep log)) s p r;
    above = λ s r. leb_rises (counts log) (count_more (seqnums keep log)) p s x.rises;
  })

  bound_zero : (log : List X) → IsBound log 0 0
  bound_zero log = record {
    upto = λ s r. let e = r.is in let g = r.step in lt-leb (counts log s) 0 (omega (arith, g)) ∙ sym (lt-leb s 0 (omega (arith, e)));
    above = λ s r. le-leb 0 (counts log s) (omega arith) ∙ sym (le-leb 0 s (omega arith));
  }

  bound_behind : (log : List X) (n : ℕ) → length (seqnums keep log) < n → IsBound log n (suc (length log))
  bound_behind log n lt = record {
    upto = λ s r. let w = rises_within log s r in le-leb (counts log s) n (few s) ∙ sym (le-leb s (suc (length log)) (omega (arith, w)));
    above = λ s r. let w = rises_within log s r in let f = fewer s in lt-leb n (counts log s) (omega (arith, f)) ∙ sym (lt-leb (suc (length log)) s (omega (arith, w)));
  }
    where
      fewer : (s : ℕ) → counts log s < n
      fewer s = at (cases_lt s (length log))
        where
          all : counts log (length log) ≡ length (seqnums keep log)
          all = count_all log (length log) (omega arith) ∙ sym (length-seqnums log)

          at : (s < length log) ⊎ (length log ≤ s) → counts log s < n
          at (inl less) = let le = count_more (seqnums keep log) s (length log) (omega arith) in omega (arith, le, all)
          at (inr more) = let e = count_all log s more ∙ sym (length-seqnums log) in omega (arith, e)

      few : (s : ℕ) → counts log s ≤ n
      few s = let f = fewer s in omega (arith, f)

  pub bound_physical : (log : List X) (n : ℕ) → IsBound log n (unwrap_or (at_seq n (seqnums keep log)) (cond (eqb n 0) 0 (suc (length log))))
  bound_physical log n = at (at_seq n (seqnums keep log)) refl
    where
      none : (n ≡ 0) ⊎ (length (seqnums keep log) < n) → IsBound log n (cond (eqb n 0) 0 (suc (length log)))
      none (inl e) = rw (eq-eqb n 0 e) (subst (λ k. IsBound log k 0) (sym e) (bound_zero log))
      none (inr lt) = rw (ne_eqb n 0 (λ e. omega (arith, e, lt))) (bound_behind log n lt)

      at : (o : Option ℕ) → at_seq n (seqnums keep log) ≡ o → IsBound log n (unwrap_or o (cond (eqb n 0) 0 (suc (length log))))
      at None e = none (not_numbered n (seqnums keep log) e)
      at (Some p) e = bound_numbered log n p (numbered log n p e)
