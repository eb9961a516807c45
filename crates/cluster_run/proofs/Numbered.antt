-- The attempts of a machine, and what is kept of them by their numbers.
use Rattle.std.proofs.Common.{◌≡◌, ◌∙◌, ℕ, Bool, true, false, cond, eqb, List, [], ◌∷◌, ◌++◌, reverse, Option, Some, None, refl, sym, ap, subst}
use Rattle.std.specs.Option.{option_or}
use Rattle.std.specs.List.{AllByRecursion, IsDistinct}
use Rattle.std.specs.Map.{lookup, keys_of, set_value}
use Rattle.std.proofs.lemmas.Bool.{eqb-true}
use Rattle.std.proofs.lemmas.List.{reverse-append}
use Rattle.boki_types.specs.declared.program.Function.{Function}
use Rattle.boki_machine.specs.Attempt.{Attempt}
use Rattle.boki_machine.specs.Machine.{NumberedAttempt, attempt_at, set_attempt}
use Rattle.attempt_state.specs.declared.state.AttemptState.{AttemptState}
use Rattle.attempt_state.specs.Attempts.{AttemptStandsFor}
use Rattle.indexmap.specs.IndexMap.{insert_entry}
use Rattle.cluster_run.specs.Clusters.{AttemptsStandFor}

pub reverse-cons : {X : Type 0} (x : X) (xs : List X) → reverse (x ∷ xs) ≡ reverse xs ++ x ∷ []
reverse-cons x xs = reverse-append (x ∷ []) xs

-- no two have one number
abbrev pub AreApart : List NumberedAttempt → Type 0
AreApart [] = Unit {0}
AreApart (x ∷ xs) = (attempt_at x.number xs ≡ None) × AreApart xs

-- The look-up and the change of a number in the reversed list.

one_at : ℕ → NumberedAttempt → Option Attempt
one_at n x = cond (eqb n x.number) (Some x.attempt) None

at_end : (n : ℕ) (xs : List NumberedAttempt) (y : NumberedAttempt) → attempt_at n (xs ++ y ∷ []) ≡ option_or (attempt_at n xs) (cond (eqb n y.number) (Some y.attempt) None)
at_end n [] y = refl
at_end n (x ∷ xs) y = at (at_end n xs y) (eqb n x.number)
  where
    at : attempt_at n (xs ++ y ∷ []) ≡ option_or (attempt_at n xs) (cond (eqb n y.number) (Some y.attempt) None) → (t : Bool)
        → cond t (Some x.attempt) (attempt_at n (xs ++ y ∷ [])) ≡ option_or (cond t (Some x.attempt) (attempt_at n xs)) (cond (eqb n y.number) (Some y.attempt) None)
    at ih true = refl
    at ih false = ih

or_none : (o : Option Attempt) → option_or o None ≡ o
or_none None = refl
or_none (Some a) = refl

pub at_reversed : (n : ℕ) (xs : List NumberedAttempt) → AreApart xs → attempt_at n (reverse xs) ≡ attempt_at n xs
at_reversed n [] apart = refl
at_reversed n (x ∷ xs) apart =
    ap (attempt_at n) (reverse-cons x xs) ∙ at_end n (reverse xs) x
    ∙ ap (λ (o : Option Attempt). option_or o (cond (eqb n x.number) (Some x.attempt) None)) (at_reversed n xs apart.1)
    ∙ at (eqb n x.number) refl
  where
    at : (t : Bool) → eqb n x.number ≡ t → option_or (attempt_at n xs) (cond t (Some x.attempt) None) ≡ cond t (Some x.attempt) (attempt_at n xs)
    at true e = ap (λ (o : Option Attempt). option_or o (Some x.attempt)) (ap (λ k. attempt_at k xs) (eqb-true n x.number e) ∙ apart.0)
    at false e = or_none (attempt_at n xs)

-- a number that isn't there changes nothing
set_none : (n : ℕ) (a : Attempt) (xs : List NumberedAttempt) → attempt_at n xs ≡ None → set_attempt n a xs ≡ xs
set_none n a [] none = refl
set_none n a (x ∷ xs) none = at (set_none n a xs) (eqb n x.number) none
  where
    at : (attempt_at n xs ≡ None → set_attempt n a xs ≡ xs) → (t : Bool) → cond t (Some x.attempt) (attempt_at n xs) ≡ None
        → cond t (record { number = n; attempt = a } ∷ xs) (x ∷ set_attempt n a xs) ≡ x ∷ xs
    at ih true e = cc
    at ih false e = ap (λ (l : List NumberedAttempt). x ∷ l) (ih e)

-- where it is only at the end
set_last : (n : ℕ) (a : Attempt) (xs : List NumberedAttempt) (y : NumberedAttempt) → attempt_at n xs ≡ None → set_attempt n a (xs ++ y ∷ []) ≡ xs ++ set_attempt n a (y ∷ [])
set_last n a [] y none = refl
set_last n a (x ∷ xs) y none = at (set_last n a xs y) (eqb n x.number) none
  where
    at : (attempt_at n xs ≡ None → set_attempt n a (xs ++ y ∷ []) ≡ xs ++ set_attempt n a (y ∷ [])) → (t : Bool) → cond t (Some x.attempt) (attempt_at n xs) ≡ None
        → cond t (record { number = n; attempt = a } ∷ (xs ++ y ∷ [])) (x ∷ set_attempt n a (xs ++ y ∷ [])) ≡ x ∷ (xs ++ set_attempt n a (y ∷ []))
    at ih true e = cc
    at ih false e = ap (λ (l : List NumberedAttempt). x ∷ l) (ih e)

-- where it isn't at the end
set_before : (n : ℕ) (a : Attempt) (xs : List NumberedAttempt) (y : NumberedAttempt) → eqb n y.number ≡ false → set_attempt n a (xs ++ y ∷ []) ≡ set_attempt n a xs ++ y ∷ []
set_before n a [] y e = ap (λ (t : Bool). cond t (record { number = n; attempt = a } ∷ []) (y ∷ [])) e
set_before n a (x ∷ xs) y e = at (set_before n a xs y e) (eqb n x.number)
  where
    at : set_attempt n a (xs ++ y ∷ []) ≡ set_attempt n a xs ++ y ∷ [] → (t : Bool)
        → cond t (record { number = n; attempt = a } ∷ (xs ++ y ∷ [])) (x ∷ set_attempt n a (xs ++ y ∷ [])) ≡ cond t (record { number = n; attempt = a } ∷ xs) (x ∷ set_attempt n a xs) ++ y ∷ []
    at ih true = refl
    at ih false = ap (λ (l : List NumberedAttempt). x ∷ l) ih

pub set_reversed : (n : ℕ) (a : Attempt) (xs : List NumberedAttempt) → AreApart xs → set_attempt n a (reverse xs) ≡ reverse (set_attempt n a xs)
set_reversed n a [] apart = refl
set_reversed n a (x ∷ xs) apart = ap (set_attempt n a) (reverse-cons x xs) ∙ at (set_reversed n a xs apart.1) (eqb n x.number) refl
  where
    at : set_attempt n a (reverse xs) ≡ reverse (set_attempt n a xs) → (t : Bool) → eqb n x.number ≡ t
        → set_attempt n a (reverse xs ++ x ∷ []) ≡ reverse (cond t (record { number = n; attempt = a } ∷ xs) (x ∷ set_attempt n a xs))
    at ih true e =
        set_last n a (reverse xs) x (at_reversed n xs apart.1 ∙ ap (λ k. attempt_at k xs) (eqb-true n x.number e) ∙ apart.0)
        ∙ ap (λ (t : Bool). reverse xs ++ cond t (record { number = n; attempt = a } ∷ []) (x ∷ [])) e
        ∙ sym (reverse-cons (record { number = n; attempt = a }) xs)
    at ih false e =
        set_before n a (reverse xs) x e
        ∙ ap (λ (l : List NumberedAttempt). l ++ x ∷ []) ih
        ∙ sym (reverse-cons x (set_attempt n a xs))

-- What is kept.

-- a number that isn't there goes last
pub inserted_last : (n : ℕ) (s : AttemptState) (es : List (ℕ × AttemptState)) → lookup (eqb n) es ≡ None → insert_entry eqb es n s ≡ es ++ (n, s) ∷ []
inserted_last n s [] none = refl
inserted_last n s (e ∷ es) none = at (inserted_last n s es) (eqb n e.0) none
  where
    at : (lookup (eqb n) es ≡ None → insert_entry eqb es n s ≡ es ++ (n, s) ∷ []) → (t : Bool) → cond t (Some e.1) (lookup (eqb n) es) ≡ None
        → cond t ((e.0, s) ∷ es) (e ∷ insert_entry eqb es n s) ≡ e ∷ (es ++ (n, s) ∷ [])
    at ih true none = cc
    at ih false none = ap (λ (l : List (ℕ × AttemptState)). e ∷ l) (ih none)

module _ (fs : List Function) where
  -- a number is there where it is kept
  abbrev pub FoundAlike : Option Attempt → Option AttemptState → Type 0
  FoundAlike None None = Unit {0}
  FoundAlike (Some a) (Some s) = AttemptStandsFor fs a s
  FoundAlike _ _ = ⊥

  pub found_alike : (n : ℕ) (xs : List NumberedAttempt) (es : List (ℕ × AttemptState)) → AttemptsStandFor fs xs es → FoundAlike (attempt_at n xs) (lookup (eqb n) es)
  found_alike n [] [] all = tt
  found_alike n [] (e ∷ es) all = absurd all
  found_alike n (x ∷ xs) [] all = absurd all
  found_alike n (x ∷ xs) (e ∷ es) all = at (found_alike n xs es all.2) (eqb n x.number) (eqb n e.0) (ap (eqb n) all.0)
    where
      at : FoundAlike (attempt_at n xs) (lookup (eqb n) es) → (t u : Bool) → t ≡ u → FoundAlike (cond t (Some x.attempt) (attempt_at n xs)) (cond u (Some e.1) (lookup (eqb n) es))
      at ih true true is = all.1
      at ih false false is = ih
      at ih true false is = cc
      at ih false true is = cc

  pub set_alike : (n : ℕ) (a : Attempt) (s : AttemptState) (xs : List NumberedAttempt) (es : List (ℕ × AttemptState)) → AttemptStandsFor fs a s → AttemptsStandFor fs xs es
      → AttemptsStandFor fs (set_attempt n a xs) (set_value (eqb n) es s)
  set_alike n a s [] [] is all = tt
  set_alike n a s [] (e ∷ es) is all = absurd all
  set_alike n a s (x ∷ xs) [] is all = absurd all
  set_alike n a s (x ∷ xs) (e ∷ es) is all = at (set_alike n a s xs es is all.2) (eqb n x.number) refl (eqb n e.0) (ap (eqb n) all.0)
    where
      at : AttemptsStandFor fs (set_attempt n a xs) (set_value (eqb n) es s) → (t : Bool) → eqb n x.number ≡ t → (u : Bool) → t ≡ u
          → AttemptsStandFor fs (cond t (record { number = n; attempt = a } ∷ xs) (x ∷ set_attempt n a xs)) (cond u ((e.0, s) ∷ es) (e ∷ set_value (eqb n) es s))
      at ih true e' true is' = (eqb-true n x.number e' ∙ all.0, is, all.2)
      at ih false e' false is' = (all.0, all.1, ih)
      at ih true e' false is' = cc
      at ih false e' true is' = cc

  pub more_alike : (xs : List NumberedAttempt) (es : List (ℕ × AttemptState)) (x : NumberedAttempt) (s : AttemptState) → AttemptsStandFor fs xs es → AttemptStandsFor fs x.attempt s
      → AttemptsStandFor fs (xs ++ x ∷ []) (es ++ (x.number, s) ∷ [])
  more_alike [] [] x s all is = (refl, is, tt)
  more_alike [] (e ∷ es) x s all is = absurd all
  more_alike (y ∷ ys) [] x s all is = absurd all
  more_alike (y ∷ ys) (e ∷ es) x s all is = (all.0, all.1, more_alike ys es x s all.2 is)

  -- the keys are distinct, and so are the numbers
  none_at : (n : ℕ) (xs : List NumberedAttempt) (es : List (ℕ × AttemptState)) → AttemptsStandFor fs xs es → AllByRecursion (λ k. eqb n k ≡ false) (keys_of es) → attempt_at n xs ≡ None
  none_at n [] [] all other = refl
  none_at n [] (e ∷ es) all other = absurd all
  none_at n (x ∷ xs) [] all other = absurd all
  none_at n (x ∷ xs) (e ∷ es) all other =
      ap (λ (t : Bool). cond t (Some x.attempt) (attempt_at n xs)) (ap (eqb n) all.0 ∙ other.0) ∙ none_at n xs es all.2 other.1

  pub are_apart : (xs : List NumberedAttempt) (es : List (ℕ × AttemptState)) → AttemptsStandFor fs xs es → IsDistinct eqb (keys_of es) → AreApart xs
  unfolding IsDistinct
  are_apart [] [] all distinct = tt
  are_apart [] (e ∷ es) all distinct = absurd all
  are_apart (x ∷ xs) [] all distinct = absurd all
  are_apart (x ∷ xs) (e ∷ es) all distinct =
      (subst (λ n. attempt_at n xs ≡ None) (sym all.0) (none_at e.0 xs es all.2 distinct.0), are_apart xs es all.2 distinct.1)
