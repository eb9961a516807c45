-- An invocation is where it was, while no step record of it comes.
use Rattle.std.proofs.Common.{◌≡◌, ℕ, suc, ◌≤◌, Bool, true, false, cond, leb, List, [], ◌∷◌, length, Option, Some, None, refl, sym, ap, ◌∙◌, subst, arith}
use Rattle.std.specs.Prelude.{bytes_eq}
use Rattle.std.proofs.lemmas.Bool.{leb-true, leb-false}
use Rattle.boki_types.specs.declared.body.Body.{Body}
use Rattle.boki_types.specs.declared.body.Body.TheVariants as b
use Rattle.boki_types.specs.declared.plan.Setup.{Setup}
use Rattle.boki_types.specs.declared.program.Function.{Function}
use Rattle.boki_types.specs.declared.log.Call.{Call}
use Rattle.boki_types.specs.declared.operation.Ask.{Ask}
use Rattle.boki_model.specs.Live.{Live, upto}
use Rattle.boki_model.specs.Bodies.{step_of}
use Rattle.boki_model.specs.Writes.{Store, KeyFence}
use Rattle.boki_machine.specs.Attempt.{call_of}
use Rattle.boki_machine.specs.Decided.{InvocationState, asked_at, with_free_answers, after_record, after_step_record}
use Rattle.exactly_once.specs.Induction.SoundLogs.{Asks, free_operations_to, AllMayFollow}
use Rattle.exactly_once.specs.FurtherLaws.StepRecords.{is_step_of, step_seqnums}
use Rattle.exactly_once.specs.Induction.Invariant.{marked_reads, marked_reads_by}
use Rattle.exactly_once.proofs.Log.MapChanges.{same_itself}
use Rattle.exactly_once.proofs.Log.LiveRecords.{Under}
use Rattle.exactly_once.proofs.Invocations.NextRecord.{stands, Does, does, apart, began, operates, ends, unbegun, cursor_within, still_called}
use Rattle.exactly_once.proofs.Invocations.FreeAnswers.{more_older}

-- a record that is no step record of the path, by its step
pub no_own_step : (p : List ℕ) (s : Option (List ℕ × ℕ)) → ((t : List ℕ × ℕ) → s ≡ Some t → bytes_eq p t.0 ≡ false) → is_step_of p s ≡ false
no_own_step p None other = refl
no_own_step p (Some t) other = other t refl

-- a record that is no step record of the path leaves its point
pub point_apart : (setup : Setup) (fs : List Function) (store : Store) (p : List ℕ) (x : Live Body) (xs : List (Live Body)) (s : Option (List ℕ × ℕ)) → is_step_of p s ≡ false → after_record setup fs store xs p x s (stands setup fs store p xs) ≡ stands setup fs store p xs
point_apart setup fs store p x xs None e = refl
point_apart setup fs store p x xs (Some s) e = ap (λ t. cond t (after_step_record setup fs store xs p x.seq x.holds s.1 (stands setup fs store p xs)) (stands setup fs store p xs)) e

-- and its marks
pub marks_apart : (p : List ℕ) (seq : ℕ) (body : Body) (others : List KeyFence) → is_step_of p (step_of body) ≡ false → marked_reads_by p seq body others ≡ others
marks_apart p seq (b.Read q i key) others e = rw e
marks_apart p seq (b.ReadGroup q i keys) others e = rw e
marks_apart p seq _ others e = refl

pub steps_fewer : (p : List ℕ) (c : ℕ) (xs : List (Live Body)) → length (step_seqnums p (upto c xs)) ≤ length (step_seqnums p xs)
steps_fewer p c [] = omega arith
steps_fewer p c (x ∷ xs) = at (leb x.seq c) (steps_fewer p c xs) (is_step_of p (step_of x.holds)) refl
  where
    at : (t : Bool) → length (step_seqnums p (upto c xs)) ≤ length (step_seqnums p xs) → (u : Bool) → is_step_of p (step_of x.holds) ≡ u → length (step_seqnums p (cond t (x ∷ xs) (upto c xs))) ≤ length (cond u (x.seq ∷ step_seqnums p xs) (step_seqnums p xs))
    at true le u e = rw e (omega arith)
    at false le true e = omega arith
    at false le false e = le

-- the records up to c have as many step records of the path as all
abbrev pub IsSamePlace : List ℕ → ℕ → List (Live Body) → Type 0
IsSamePlace p c xs = length (step_seqnums p (upto c xs)) ≡ length (step_seqnums p xs)

-- then the newest record is none of them, or is among them
pub record IsSkipped (p : List ℕ) (c : ℕ) (x : Live Body) (xs : List (Live Body)) : Type 0 where
  pub no_step : is_step_of p (step_of x.holds) ≡ false
  pub rest : IsSamePlace p c xs

pub skipped : (p : List ℕ) (c : ℕ) (x : Live Body) (xs : List (Live Body)) → leb x.seq c ≡ false → IsSamePlace p c (x ∷ xs) → IsSkipped p c x xs
skipped p c x xs later same = at (is_step_of p (step_of x.holds)) refl (ap (λ t. length (step_seqnums p (cond t (x ∷ xs) (upto c xs)))) (sym later) ∙ same)
  where
    at : (u : Bool) → is_step_of p (step_of x.holds) ≡ u → length (step_seqnums p (upto c xs)) ≡ length (cond u (x.seq ∷ step_seqnums p xs) (step_seqnums p xs)) → IsSkipped p c x xs
    at true e is = absurd (let le = steps_fewer p c xs in let no_way : ⊥ = omega (arith, is, le) in no_way)
    at false e is = record { no_step = e; rest = is }

module _ (setup : Setup) (fs : List Function) (store : Store) (p : List ℕ) (c : ℕ) where
  pub same_point : (xs : List (Live Body)) → IsSamePlace p c xs → stands setup fs store p xs ≡ stands setup fs store p (upto c xs)
  same_point [] same = refl
  same_point (x ∷ xs) same = at (leb x.seq c) refl (same_point xs)
    where
      at : (t : Bool) → leb x.seq c ≡ t → (IsSamePlace p c xs → stands setup fs store p xs ≡ stands setup fs store p (upto c xs)) → stands setup fs store p (x ∷ xs) ≡ stands setup fs store p (cond t (x ∷ xs) (upto c xs))
      at true e ih = refl
      at false e ih = let s = skipped p c x xs e same in point_apart setup fs store p x xs (step_of x.holds) s.no_step ∙ ih s.rest

  pub same_marks : (xs : List (Live Body)) → IsSamePlace p c xs → marked_reads p xs ≡ marked_reads p (upto c xs)
  same_marks [] same = refl
  same_marks (x ∷ xs) same = at (leb x.seq c) refl (same_marks xs)
    where
      at : (t : Bool) → leb x.seq c ≡ t → (IsSamePlace p c xs → marked_reads p xs ≡ marked_reads p (upto c xs)) → marked_reads p (x ∷ xs) ≡ marked_reads p (cond t (x ∷ xs) (upto c xs))
      at true e ih = refl
      at false e ih = let s = skipped p c x xs e same in marks_apart p x.seq x.holds (marked_reads p xs) s.no_step ∙ ih s.rest

  -- free answers at a cursor up to c
  pub same_more : (st : InvocationState) (n : ℕ) (xs : List (Live Body)) → st.cursor ≤ c → with_free_answers fs store xs p st n ≡ with_free_answers fs store (upto c xs) p st n
  same_more st n [] le = refl
  same_more st n (x ∷ xs) le = at (leb x.seq c) refl (same_more st n xs le)
    where
      at : (t : Bool) → leb x.seq c ≡ t → with_free_answers fs store xs p st n ≡ with_free_answers fs store (upto c xs) p st n → with_free_answers fs store (x ∷ xs) p st n ≡ with_free_answers fs store (cond t (x ∷ xs) (upto c xs)) p st n
      at true e ih = refl
      at false e ih = let lt = leb-false x.seq c e in more_older store x xs fs p st n (omega (arith, lt, le)) ∙ ih

  pub called_upto : (call : Call) (xs : List (Live Body)) → call_of p (upto c xs) ≡ Some call → call_of p xs ≡ Some call
  called_upto call [] is = is
  called_upto call (x ∷ xs) is = at (leb x.seq c) (called_upto call xs) is
    where
      at : (t : Bool) → (call_of p (upto c xs) ≡ Some call → call_of p xs ≡ Some call) → call_of p (cond t (x ∷ xs) (upto c xs)) ≡ Some call → call_of p (x ∷ xs) ≡ Some call
      at true ih is = is
      at false ih is = still_called setup fs store p x xs call (ih is)

  pub fit_upto : (xs : List (Live Body)) → AllMayFollow setup fs store xs → AllMayFollow setup fs store (upto c xs)
  fit_upto [] fit = tt
  fit_upto (x ∷ xs) fit = elim (leb x.seq c) as (λ t. AllMayFollow setup fs store (cond t (x ∷ xs) (upto c xs))) [ true ↦ fit | false ↦ fit_upto xs fit.2 ]

  pub under_upto : (n : ℕ) (xs : List (Live Body)) → Under n xs → Under c (upto c xs)
  under_upto n [] under = tt
  under_upto n (x ∷ xs) under = at (leb x.seq c) refl (under_upto under.0 xs under.3)
    where
      at : (t : Bool) → leb x.seq c ≡ t → Under c (upto c xs) → Under c (cond t (x ∷ xs) (upto c xs))
      at true e ih = let le = leb-true x.seq c e in (under.0, under.1, omega (arith, le, under.1), under.3)
      at false e ih = ih

  pub cursor_upto : (n : ℕ) (xs : List (Live Body)) → Under n xs → AllMayFollow setup fs store xs → (stands setup fs store p (upto c xs)).cursor ≤ c
  cursor_upto n xs under fit = cursor_within setup fs store c (upto c xs) p (under_upto n xs under) (fit_upto xs fit)

  -- what an invocation asks at its place, it asks now
  pub asks_now : (n : ℕ) (xs : List (Live Body)) (index : ℕ) (ask : Ask) → Under n xs → AllMayFollow setup fs store xs → IsSamePlace p c xs → Asks fs store (upto c xs) p (stands setup fs store p (upto c xs)) index ask → Asks fs store xs p (stands setup fs store p xs) index ask
  asks_now n xs index ask under fit same asks =
      subst (λ st. Asks fs store xs p st index ask) (sym (same_point xs same))
      (let st = stands setup fs store p (upto c xs) in
      let grown = same_more st (free_operations_to index st) xs (cursor_upto n xs under fit) in
      record {
        reaches = record {
          begun = asks.reaches.begun;
          unended = asks.reaches.unended;
          decided = ap (λ l. suc (length l)) grown ∙ asks.reaches.decided;
          all_versions = asks.reaches.all_versions;
        };
        asked = ap (asked_at fs p st) grown ∙ asks.asked;
      })

module _ (setup : Setup) (fs : List Function) (store : Store) (p : List ℕ) where
  -- the place of an invocation is the number of its step records
  pub place_is : (xs : List (Live Body)) → AllMayFollow setup fs store xs → (stands setup fs store p xs).place ≡ length (step_seqnums p xs)
  place_is [] fit = refl
  place_is (x ∷ xs) fit = at (place_is xs fit.2) (stands setup fs store p (x ∷ xs)) (does setup fs store x xs p fit.0)
    where
      own : (next : InvocationState) (i : ℕ) → step_of x.holds ≡ Some (p, i) → next.place ≡ suc (length (step_seqnums p xs)) → next.place ≡ length (step_seqnums p (x ∷ xs))
      own next i step is = is ∙ sym (ap (λ s. length (cond (is_step_of p s) (x.seq ∷ step_seqnums p xs) (step_seqnums p xs))) step ∙ ap (λ t. length (cond t (x.seq ∷ step_seqnums p xs) (step_seqnums p xs))) (same_itself p))

      at : (stands setup fs store p xs).place ≡ length (step_seqnums p xs) → (next : InvocationState) → Does setup fs store x.seq x.holds xs p next → next.place ≡ length (step_seqnums p (x ∷ xs))
      at ih next (apart other finish is) = ap (λ (p : InvocationState). p.place) is ∙ ih ∙ sym (ap (λ t. length (cond t (x.seq ∷ step_seqnums p xs) (step_seqnums p xs))) (no_own_step p (step_of x.holds) other))
      at ih next (began body may is) =
          own next 1 (ap step_of body) (ap (λ (p : InvocationState). p.place) is ∙ ap suc (ap (λ (p : InvocationState). p.place) (sym (unbegun setup fs store xs p fit.2 may.new)) ∙ ih))
      at ih next (operates i step finish reaches is) = own next i step (ap (λ (p : InvocationState). p.place) is ∙ ap suc ih)
      at ih next (ends i outcome body asks is) = own next i (ap step_of body) (ap (λ (p : InvocationState). p.place) is ∙ ap suc ih)

  -- one that has not begun has read nothing
  marks_new : (xs : List (Live Body)) → length (step_seqnums p xs) ≡ 0 → marked_reads p xs ≡ []
  marks_new [] none = refl
  marks_new (x ∷ xs) none = at (is_step_of p (step_of x.holds)) refl none (marks_new xs)
    where
      at : (t : Bool) → is_step_of p (step_of x.holds) ≡ t → length (cond t (x.seq ∷ step_seqnums p xs) (step_seqnums p xs)) ≡ 0 → (length (step_seqnums p xs) ≡ 0 → marked_reads p xs ≡ []) → marked_reads p (x ∷ xs) ≡ []
      at true e none ih = absurd (let h : ⊥ = omega (arith, none) in h)
      at false e none ih = marks_apart p x.seq x.holds (marked_reads p xs) e ∙ ih none

  pub unbegun_marks : (xs : List (Live Body)) → AllMayFollow setup fs store xs → (stands setup fs store p xs).begun ≡ false → marked_reads p xs ≡ []
  unbegun_marks xs fit new = marks_new xs (sym (place_is xs fit) ∙ ap (λ (p : InvocationState). p.place) (unbegun setup fs store xs p fit new))
