-- The attempts of an engine are killed one by one.
use Rattle.std.proofs.Common.{◌≡◌, ◌∙◌, ℕ, zero, suc, ◌&&◌, Bool, true, false, cond, eqb, List, [], ◌∷◌, ◌++◌, length, map, reverse, Some, None, refl, sym, ap, subst}
use Rattle.std.specs.Prelude.{slice_get}
use Rattle.std.specs.List.{filter}
use Rattle.log_folds.proofs.Maps.{map-reversed}
use Rattle.boki_types.specs.declared.program.Function.{Function}
use Rattle.boki_machine.specs.Attempt.{Attempt}
use Rattle.boki_machine.specs.Step.{is_running, after_kill}
use Rattle.boki_machine.specs.Machine.{NumberedAttempt, runs_on, kill_if_on, kill_on}
use Rattle.attempt_state.specs.declared.progress.Progress.{Progress}
use Rattle.attempt_state.specs.declared.state.AttemptState.{AttemptState}
use Rattle.attempt_state.specs.Attempts.{AttemptStandsFor}
use Rattle.indexmap.specs.IndexMap.{set_value_at}
use Rattle.cluster_run.specs.Clusters.{AttemptsStandFor}
use Rattle.cluster_run.specs.Killed.{kept_runs_on, running_count, kill_one}
use Rattle.cluster_run.proofs.Numbered.{reverse-cons}

-- the first so many were looked at
abbrev pub kill_first : ℕ → ℕ → List NumberedAttempt → List NumberedAttempt
kill_first engine zero xs = xs
kill_first engine (suc n) [] = []
kill_first engine (suc n) (x ∷ xs) = kill_if_on engine x ∷ kill_first engine n xs

pub one_more : (engine n : ℕ) (xs : List NumberedAttempt) → kill_one engine n (kill_first engine n xs) ≡ kill_first engine (suc n) xs
one_more engine zero [] = refl
one_more engine zero (x ∷ xs) = refl
one_more engine (suc n) [] = refl
one_more engine (suc n) (x ∷ xs) = ap (λ (l : List NumberedAttempt). kill_if_on engine x ∷ l) (one_more engine n xs)

pub each_killed : (engine : ℕ) (xs : List NumberedAttempt) → kill_first engine (length xs) xs ≡ kill_on engine xs
each_killed engine [] = refl
each_killed engine (x ∷ xs) = ap (λ (l : List NumberedAttempt). kill_if_on engine x ∷ l) (each_killed engine xs)

number_kept : (x : NumberedAttempt) (t : Bool) → (cond t (record x { attempt = after_kill x.attempt }) x).number ≡ x.number
number_kept x true = refl
number_kept x false = refl

-- How many run on an engine.

-- one more where that one does
abbrev pub count_if : Bool → ℕ → ℕ
count_if t n = cond t (suc n) n

abbrev pub running_attempts : ℕ → List NumberedAttempt → ℕ
running_attempts engine xs = length (filter (λ x. runs_on engine x.attempt) xs)

counted : {X : Type 0} (x : X) (xs : List X) (t : Bool) → length (cond t (x ∷ xs) xs) ≡ count_if t (length xs)
counted x xs true = refl
counted x xs false = refl

pub one_counted : (engine : ℕ) (e : ℕ × AttemptState) (es : List (ℕ × AttemptState)) → running_count engine (e ∷ es) ≡ count_if (kept_runs_on engine e.1) (running_count engine es)
one_counted engine e es = counted e (filter (λ e. kept_runs_on engine e.1) es) (kept_runs_on engine e.1)

one_running : (engine : ℕ) (x : NumberedAttempt) (xs : List NumberedAttempt) → running_attempts engine (x ∷ xs) ≡ count_if (runs_on engine x.attempt) (running_attempts engine xs)
one_running engine x xs = counted x (filter (λ x. runs_on engine x.attempt) xs) (runs_on engine x.attempt)

last_running : (engine : ℕ) (xs : List NumberedAttempt) (x : NumberedAttempt) → running_attempts engine (xs ++ x ∷ []) ≡ count_if (runs_on engine x.attempt) (running_attempts engine xs)
last_running engine [] x = one_running engine x []
last_running engine (y ∷ ys) x =
    one_running engine y (ys ++ x ∷ []) ∙ ap (count_if (runs_on engine y.attempt)) (last_running engine ys x)
    ∙ swap (runs_on engine y.attempt) (runs_on engine x.attempt)
    ∙ ap (count_if (runs_on engine x.attempt)) (sym (one_running engine y ys))
  where
    swap : (t u : Bool) → count_if t (count_if u (running_attempts engine ys)) ≡ count_if u (count_if t (running_attempts engine ys))
    swap true true = refl
    swap true false = refl
    swap false true = refl
    swap false false = refl

pub running_reversed : (engine : ℕ) (xs : List NumberedAttempt) → running_attempts engine (reverse xs) ≡ running_attempts engine xs
running_reversed engine [] = refl
running_reversed engine (x ∷ xs) =
    ap (running_attempts engine) (reverse-cons x xs) ∙ last_running engine (reverse xs) x
    ∙ ap (count_if (runs_on engine x.attempt)) (running_reversed engine xs) ∙ sym (one_running engine x xs)

module _ (fs : List Function) where
  pub same_length : (xs : List NumberedAttempt) (es : List (ℕ × AttemptState)) → AttemptsStandFor fs xs es → length xs ≡ length es
  same_length [] [] all = refl
  same_length [] (e ∷ es) all = absurd all
  same_length (x ∷ xs) [] all = absurd all
  same_length (x ∷ xs) (e ∷ es) all = ap suc (same_length xs es all.2)

  module _ (engine : ℕ) where
    pub runs_alike : (a : Attempt) (s : AttemptState) → AttemptStandsFor fs a s → kept_runs_on engine s ≡ runs_on engine a
    runs_alike a s is = ap (λ (p : Progress). is_running p.life && eqb engine p.engine) is.progress

    killed_if : (x : NumberedAttempt) (v w : AttemptState) → (kept_runs_on engine v ≡ true → (a : Attempt) → AttemptStandsFor fs a v → AttemptStandsFor fs (after_kill a) w)
        → (kept_runs_on engine v ≡ false → w ≡ v) → AttemptStandsFor fs x.attempt v → (t : Bool) → runs_on engine x.attempt ≡ t
        → AttemptStandsFor fs (cond t (record x { attempt = after_kill x.attempt }) x).attempt w
    killed_if x v w runs rests is true e = runs (runs_alike x.attempt v is ∙ e) x.attempt is
    killed_if x v w runs rests is false e = subst (AttemptStandsFor fs x.attempt) (sym (rests (runs_alike x.attempt v is ∙ e))) is

    pub killed_at : (v w : AttemptState) → (kept_runs_on engine v ≡ true → (a : Attempt) → AttemptStandsFor fs a v → AttemptStandsFor fs (after_kill a) w)
        → (kept_runs_on engine v ≡ false → w ≡ v) → (index : ℕ) (xs : List NumberedAttempt) (es : List (ℕ × AttemptState)) → AttemptsStandFor fs xs es
        → Some v ≡ slice_get (map (λ e. e.1) es) index → AttemptsStandFor fs (kill_one engine index xs) (set_value_at es index w)
    killed_at v w runs rests index [] [] all there = tt
    killed_at v w runs rests index [] (e ∷ es) all there = absurd all
    killed_at v w runs rests index (x ∷ xs) [] all there = absurd all
    killed_at v w runs rests zero (x ∷ xs) (e ∷ es) all there =
        let same : v ≡ e.1 = cc in
        (number_kept x (runs_on engine x.attempt) ∙ all.0, killed_if x v w runs rests (subst (AttemptStandsFor fs x.attempt) (sym same) all.1) (runs_on engine x.attempt) refl, all.2)
    killed_at v w runs rests (suc index) (x ∷ xs) (e ∷ es) all there = (all.0, all.1, killed_at v w runs rests index xs es all.2 there)

    pub none_at_index : (index : ℕ) (xs : List NumberedAttempt) (es : List (ℕ × AttemptState)) → AttemptsStandFor fs xs es
        → None ≡ slice_get (map (λ e. e.1) es) index → AttemptsStandFor fs (kill_one engine index xs) es
    none_at_index index [] [] all there = tt
    none_at_index index [] (e ∷ es) all there = absurd all
    none_at_index index (x ∷ xs) [] all there = absurd all
    none_at_index zero (x ∷ xs) (e ∷ es) all there = cc
    none_at_index (suc index) (x ∷ xs) (e ∷ es) all there = (all.0, all.1, none_at_index index xs es all.2 there)

    -- as many run as are kept as running
    pub counts_alike : (xs : List NumberedAttempt) (es : List (ℕ × AttemptState)) → AttemptsStandFor fs xs es → running_count engine es ≡ running_attempts engine xs
    counts_alike [] [] all = refl
    counts_alike [] (e ∷ es) all = absurd all
    counts_alike (x ∷ xs) [] all = absurd all
    counts_alike (x ∷ xs) (e ∷ es) all =
        one_counted engine e es ∙ ap (count_if (kept_runs_on engine e.1)) (counts_alike xs es all.2)
        ∙ ap (λ (t : Bool). count_if t (running_attempts engine xs)) (runs_alike x.attempt e.1 all.1)
        ∙ sym (one_running engine x xs)

    pub counts_reversed : (xs : List NumberedAttempt) (es : List (ℕ × AttemptState)) → AttemptsStandFor fs (reverse xs) es → running_count engine es ≡ running_attempts engine xs
    counts_reversed xs es all = counts_alike (reverse xs) es all ∙ running_reversed engine xs

    pub killed_reversed : (xs : List NumberedAttempt) (es : List (ℕ × AttemptState)) → AttemptsStandFor fs (kill_on engine (reverse xs)) es → AttemptsStandFor fs (reverse (kill_on engine xs)) es
    killed_reversed xs es all = subst (λ (l : List NumberedAttempt). AttemptsStandFor fs l es) (map-reversed (kill_if_on engine) xs) all
