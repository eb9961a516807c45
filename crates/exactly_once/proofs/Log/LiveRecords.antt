-- Live records by their seqnums, which fall.
use Rattle.std.proofs.Common.{◌≡◌, ⊎_elim, ℕ, suc, ◌<◌, ◌≤◌, Bool, true, false, cond, eqb, List, [], ◌∷◌, length, Some, refl, sym, ap, ◌∙◌, subst, arith, ◌-◌}
use Rattle.std.proofs.lemmas.Bool.{eqb-true}
use Rattle.boki_model.specs.Live.{LogRecord, Live, live, upto}
use Rattle.boki_model.specs.LogLaws.{FallBelow}
use Rattle.boki_model.proofs.Logs.{fall_more, live_falls, upto_skip, upto_all}
use Rattle.exactly_once.specs.FurtherLaws.ModesAndFloors.{body_at}
use Rattle.exactly_once.proofs.Log.HistoryTails.{Tail, here, there, tail_cases}

module _ {A : Type 0} where
  -- seqnums are at most n, and fall
  abbrev pub Under : ℕ → List (Live A) → Type 0
  Under n [] = Unit {0}
  Under n (x ∷ xs) = (m : ℕ) × (x.seq ≡ suc m) × (m < n) × Under m xs

  pub under_more : (n m : ℕ) (xs : List (Live A)) → n ≤ m → Under n xs → Under m xs
  under_more n m [] le under = tt
  under_more n m (x ∷ xs) le under = (under.0, under.1, omega (arith, under.2), under.3)

  under_falls : (n : ℕ) (xs : List (Live A)) → Under n xs → FallBelow (suc n) xs
  under_falls n [] under = tt
  under_falls n (x ∷ xs) under = (omega (arith, under.1), omega (arith, under.1, under.2), fall_more (suc under.0) x.seq xs (omega (arith, under.1)) (under_falls under.0 xs under.3))

  falls_under : (n m : ℕ) (xs : List (Live A)) → n ≡ suc m → FallBelow n xs → Under m xs
  falls_under n m [] e fall = tt
  falls_under n m (x ∷ xs) e fall = (x.seq - 1, omega (arith, fall.0), omega (arith, fall.0, fall.1), falls_under x.seq (x.seq - 1) xs (omega (arith, fall.0)) fall.2)

  pub live_under : (log : List (LogRecord A)) → Under (length log) (live log)
  live_under log = falls_under (suc (length log)) (length log) (live log) refl (live_falls log)

  pub upto_whole : (n p : ℕ) (xs : List (Live A)) → Under n xs → n ≤ p → upto p xs ≡ xs
  upto_whole n p xs under le = upto_all (suc n) p xs (under_falls n xs under) (omega (arith, le))

  -- the live record at a seqnum, and what lies behind it
  pub record IsAt (n seq : ℕ) (xs : List (Live A)) (holds : A) : Type 0 where
    pub record_there : Live A
    pub behind : List (Live A)
    pub tail : Tail (record_there ∷ behind) xs
    pub below : upto (seq - 1) xs ≡ behind
    pub seq_is : record_there.seq ≡ seq
    pub within : seq ≤ n
    pub holds_is : record_there.holds ≡ holds

  at_head : (n : ℕ) (x : Live A) (xs : List (Live A)) → Under n (x ∷ xs) → IsAt n x.seq (x ∷ xs) x.holds
  at_head n x xs under = record {
    record_there = x;
    behind = xs;
    tail = here;
    below = upto_skip (x.seq - 1) x xs (omega (arith, under.1)) ∙ upto_whole under.0 (x.seq - 1) xs under.3 (omega (arith, under.1));
    seq_is = refl;
    within = omega (arith, under.1, under.2);
    holds_is = refl;
  }

  at_later : (n m seq : ℕ) (x : Live A) (xs : List (Live A)) (holds : A) → x.seq ≡ suc m → m < n → IsAt m seq xs holds → IsAt n seq (x ∷ xs) holds
  at_later n m seq x xs holds is lt found = record {
    record_there = found.record_there;
    behind = found.behind;
    tail = there found.tail;
    below = upto_skip (seq - 1) x xs (omega (arith, found.within)) ∙ found.below;
    seq_is = found.seq_is;
    within = omega (arith, found.within);
    holds_is = found.holds_is;
  }

  pub at_some : (n seq : ℕ) (xs : List (Live A)) (holds : A) → Under n xs → body_at seq xs ≡ Some holds → IsAt n seq xs holds
  at_some n seq [] holds under found = cc
  at_some n seq (x ∷ xs) holds under found = at (λ e. at_later n under.0 seq x xs holds under.1 under.2 (at_some under.0 seq xs holds under.3 e)) (eqb seq x.seq) refl found
    where
      at : (body_at seq xs ≡ Some holds → IsAt n seq (x ∷ xs) holds) → (b : Bool) → eqb seq x.seq ≡ b → cond b (Some x.holds) (body_at seq xs) ≡ Some holds → IsAt n seq (x ∷ xs) holds
      at later true e is =
          let here : IsAt n x.seq (x ∷ xs) x.holds = at_head n x xs under in
          let same : x.holds ≡ holds = cc in
          subst (λ s. IsAt n s (x ∷ xs) holds) (sym (eqb-true seq x.seq e)) (subst (IsAt n x.seq (x ∷ xs)) same here)
      at later false e is = later is

  pub tail_within : (x : Live A) (xs : List (Live A)) (n : ℕ) (ys : List (Live A)) → Under n ys → Tail (x ∷ xs) ys → x.seq ≤ n
  tail_within n x xs ys under here = omega (arith, under.1, under.2)
  tail_within x xs n (y ∷ ys) under (there t) = omega (arith, under.2, tail_within x xs under.0 ys under.3 t)

  pub tail_below : (n : ℕ) (x y : Live A) (xs ys : List (Live A)) → Under n (y ∷ ys) → Tail (x ∷ xs) ys → x.seq < y.seq
  tail_below n x y xs ys under t = omega (arith, under.1, under.2, tail_within x xs under.0 ys under.3 t)

  -- of two records, the one with the lesser seqnum lies behind the other
  pub tails_by_seq : (x y : Live A) (xs ys : List (Live A)) (n : ℕ) (zs : List (Live A)) → Under n zs → Tail (x ∷ xs) zs → Tail (y ∷ ys) zs → x.seq < y.seq → Tail (x ∷ xs) ys
  tails_by_seq x y xs ys n zs under s here lt = ⊎_elim (λ same. absurd (let e : x ≡ y = cc in omega (arith, lt, ap (λ (x : Live A). x.seq) e))) (λ t. t) (tail_cases s)
  tails_by_seq x y xs ys n (z ∷ zs) under s (there t) lt =
      ⊎_elim (λ same. absurd (let e : x ≡ z = cc in omega (arith, lt, ap (λ (x : Live A). x.seq) e, tail_below n y z ys zs under t))) (λ s. tails_by_seq x y xs ys under.0 zs under.3 s t lt) (tail_cases s)

  pub under_tail : (ys : List (Live A)) (m : ℕ) (xs : List (Live A)) → Under m xs → Tail ys xs → Under m ys
  under_tail ys m xs under here = under
  under_tail ys m (x ∷ xs) under (there t) = under_more under.0 m ys (omega (arith, under.2)) (under_tail ys under.0 xs under.3 t)
