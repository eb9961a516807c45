-- What the events of attempts do to what is kept.
use Rattle.std.proofs.Common.{◌≡◌, ◌∙◌, ℕ, Bool, true, false, cond, eqb, List, ◌∷◌, ◌++◌, [], reverse, Option, Some, None, refl, sym, ap, subst}
use Rattle.std.specs.Option.{is_some}
use Rattle.std.specs.List.{IsDistinct}
use Rattle.std.specs.Map.{lookup, keys_of, set_value}
use Rattle.std.proofs.lemmas.List.{reverse-reverse}
use Rattle.boki_types.specs.declared.event.Event.TheVariants as event
use Rattle.boki_types.specs.declared.line.Line.TheVariants as line
use Rattle.boki_types.specs.declared.plan.Setup.{Setup}
use Rattle.boki_types.specs.declared.program.Function.{Function}
use Rattle.boki_machine.specs.Attempt.{Attempt, new_attempt}
use Rattle.boki_machine.specs.Step.{is_running, after_kill, after_lose}
use Rattle.boki_machine.specs.Machine.{Machine, NumberedAttempt, EventResult, event_result, attempt_at, set_attempt, start_attempt, kill_attempt, lose_record}
use Rattle.attempt_state.specs.Progresses.{awaits_record}
use Rattle.attempt_state.specs.declared.progress.Progress.{Progress}
use Rattle.attempt_state.specs.declared.state.AttemptState.{AttemptState}
use Rattle.attempt_state.specs.Attempts.{AttemptStandsFor}
use Rattle.cluster_run.specs.Clusters.{AttemptsStandFor}
use Rattle.cluster_run.specs.Attempts.{IsDoneToAttempts}
use Rattle.indexmap.specs.IndexMap.{insert_entry}
use Rattle.cluster_run.proofs.Numbered.{reverse-cons, are_apart, at_reversed, set_reversed, found_alike, FoundAlike, set_alike, more_alike, inserted_last}

module _ (fs : List Function) (m : Machine) (es : List (ℕ × AttemptState)) (stand : AttemptsStandFor fs (reverse m.attempts) es)
    (distinct : IsDistinct eqb (keys_of es)) (n : ℕ) where
  at_end_first : attempt_at n m.attempts ≡ attempt_at n (reverse m.attempts)
  at_end_first =
      ap (attempt_at n) (sym (reverse-reverse m.attempts)) ∙ at_reversed n (reverse m.attempts) (are_apart fs (reverse m.attempts) es stand distinct)

  found : FoundAlike fs (attempt_at n m.attempts) (lookup (eqb n) es)
  found = subst (λ (o : Option Attempt). FoundAlike fs o (lookup (eqb n) es)) (sym at_end_first) (found_alike fs n (reverse m.attempts) es stand)

  set_first : (a : Attempt) → reverse (set_attempt n a m.attempts) ≡ set_attempt n a (reverse m.attempts)
  set_first a =
      ap (λ (xs : List NumberedAttempt). reverse (set_attempt n a xs)) (sym (reverse-reverse m.attempts))
      ∙ ap reverse (set_reversed n a (reverse m.attempts) (are_apart fs (reverse m.attempts) es stand distinct))
      ∙ reverse-reverse (set_attempt n a (reverse m.attempts))

  pub set_stand : (a : Attempt) (s : AttemptState) → AttemptStandsFor fs a s → AttemptsStandFor fs (reverse (set_attempt n a m.attempts)) (set_value (eqb n) es s)
  set_stand a s is =
      subst (λ (xs : List NumberedAttempt). AttemptsStandFor fs xs (set_value (eqb n) es s)) (sym (set_first a)) (set_alike fs n a s (reverse m.attempts) es is stand)

  -- where it isn't kept there is none
  pub none_there : None ≡ lookup (eqb n) es → attempt_at n m.attempts ≡ None
  none_there e = at (attempt_at n m.attempts) refl (subst (FoundAlike fs (attempt_at n m.attempts)) (sym e) found)
    where
      at : (o : Option Attempt) → attempt_at n m.attempts ≡ o → FoundAlike fs o None → attempt_at n m.attempts ≡ None
      at None q alike = q
      at (Some a) q alike = absurd alike

  -- and where it is kept there is one, for which that stands
  pub one_there : (v : AttemptState) → Some v ≡ lookup (eqb n) es → (a : Attempt) × (attempt_at n m.attempts ≡ Some a) × AttemptStandsFor fs a v
  one_there v e = at (attempt_at n m.attempts) refl (subst (FoundAlike fs (attempt_at n m.attempts)) (sym e) found)
    where
      at : (o : Option Attempt) → attempt_at n m.attempts ≡ o → FoundAlike fs o (Some v) → (a : Attempt) × (attempt_at n m.attempts ≡ Some a) × AttemptStandsFor fs a v
      at None q alike = absurd alike
      at (Some a) q alike = (a, q, alike)

  -- an event that ignores what it found there
  pub ignored :
      (does : Option Attempt → EventResult) (o : Option Attempt) → attempt_at n m.attempts ≡ o → does o ≡ event_result m line.Ignored
      → (line.Ignored ≡ (does (attempt_at n m.attempts)).line) × AttemptsStandFor fs (reverse (does (attempt_at n m.attempts)).machine.attempts) es
  ignored does o e is =
      let same : does (attempt_at n m.attempts) ≡ event_result m line.Ignored = ap does e ∙ is in
      (sym (ap (λ (r : EventResult). r.line) same), subst (λ (r : EventResult). AttemptsStandFor fs (reverse r.machine.attempts) es) (sym same) stand)

  -- A new attempt.
  module _ (setup : Setup) (path : List ℕ) (engine : ℕ) where
    pub start_ignored : true ≡ is_some (lookup (eqb n) es) → IsDoneToAttempts setup fs (event.Start n path engine) m es line.Ignored
    start_ignored e = at (lookup (eqb n) es) refl e
      where
        at : (p : Option AttemptState) → p ≡ lookup (eqb n) es → true ≡ is_some p → IsDoneToAttempts setup fs (event.Start n path engine) m es line.Ignored
        at None q e = cc
        at (Some v) q e =
            let one = one_there v q in
            let done = ignored (start_attempt m n path engine) (Some one.0) one.1 refl in
            record { line_is = done.0; stand = done.1 }

    pub started : (s : AttemptState) (new : List (ℕ × AttemptState)) → false ≡ is_some (lookup (eqb n) es)
        → AttemptStandsFor fs (new_attempt path engine) s → new ≡ insert_entry eqb es n s → IsDoneToAttempts setup fs (event.Start n path engine) m new line.Started
    started s new e is after = at (lookup (eqb n) es) refl e
      where
        at : (p : Option AttemptState) → p ≡ lookup (eqb n) es → false ≡ is_some p → IsDoneToAttempts setup fs (event.Start n path engine) m new line.Started
        at (Some v) q e = cc
        at None q e =
            let none = none_there q in
            let x : NumberedAttempt = record { number = n; attempt = new_attempt path engine } in
            record {
              line_is = sym (ap (λ (o : Option Attempt). (start_attempt m n path engine o).line) none);
              stand =
                  subst (λ (o : Option Attempt). AttemptsStandFor fs (reverse (start_attempt m n path engine o).machine.attempts) new) (sym none)
                  (subst (λ (xs : List NumberedAttempt). AttemptsStandFor fs xs new) (sym (reverse-cons x m.attempts))
                  (subst (AttemptsStandFor fs (reverse m.attempts ++ x ∷ [])) (sym (after ∙ inserted_last n s es (sym q)))
                  (more_alike fs (reverse m.attempts) es x s stand is)));
            }

  pub kill_ignored : (setup : Setup) (new : List (ℕ × AttemptState)) → None ≡ lookup (eqb n) es → new ≡ es → IsDoneToAttempts setup fs (event.Kill n) m new line.Ignored
  kill_ignored setup new e same =
      let done = ignored (kill_attempt m n) None (none_there e) refl in
      record { line_is = done.0; stand = subst (AttemptsStandFor fs (reverse (kill_attempt m n (attempt_at n m.attempts)).machine.attempts)) (sym same) done.1 }

  pub lose_ignored : (setup : Setup) (new : List (ℕ × AttemptState)) → None ≡ lookup (eqb n) es → new ≡ es → IsDoneToAttempts setup fs (event.Lose n) m new line.Ignored
  lose_ignored setup new e same =
      let done = ignored (lose_record m n) None (none_there e) refl in
      record { line_is = done.0; stand = subst (AttemptsStandFor fs (reverse (lose_record m n (attempt_at n m.attempts)).machine.attempts)) (sym same) done.1 }

  module _ (setup : Setup) (s : AttemptState) (new : List (ℕ × AttemptState)) where
    pub kill_said : (v : AttemptState) (answer : Bool) → Some v ≡ lookup (eqb n) es → answer ≡ is_running v.progress.life
        → ((a : Attempt) → AttemptStandsFor fs a v → AttemptStandsFor fs (after_kill a) s) → new ≡ set_value (eqb n) es s
        → IsDoneToAttempts setup fs (event.Kill n) m new (cond answer line.Killed line.Idle)
    kill_said v answer there told killed is = at (attempt_at n m.attempts) refl (lookup (eqb n) es) there found
      where
        at : (o : Option Attempt) → attempt_at n m.attempts ≡ o → (p : Option AttemptState) → Some v ≡ p → FoundAlike fs o p
            → IsDoneToAttempts setup fs (event.Kill n) m new (cond answer line.Killed line.Idle)
        at None e None q alike = cc
        at None e (Some p) q alike = absurd alike
        at (Some a) e None q alike = absurd alike
        at (Some a) e (Some p) q alike =
            let same : v ≡ p = cc in
            let here : AttemptStandsFor fs a v = subst (AttemptStandsFor fs a) (sym same) alike in
            record {
              line_is =
                  ap (λ (b : Bool). cond b line.Killed line.Idle) (told ∙ ap (λ (p : Progress). is_running p.life) here.progress)
                  ∙ sym (ap (λ (o : Option Attempt). (kill_attempt m n o).line) e);
              stand =
                  subst (λ (o : Option Attempt). AttemptsStandFor fs (reverse (kill_attempt m n o).machine.attempts) new) (sym e)
                  (subst (AttemptsStandFor fs (reverse (set_attempt n (after_kill a) m.attempts))) (sym is) (set_stand (after_kill a) s (killed a here)));
            }

    pub lose_said : (v : AttemptState) (answer : Bool) → Some v ≡ lookup (eqb n) es → answer ≡ awaits_record v.progress
        → ((a : Attempt) → AttemptStandsFor fs a v → AttemptStandsFor fs (after_lose a) s) → new ≡ set_value (eqb n) es s
        → IsDoneToAttempts setup fs (event.Lose n) m new (cond answer line.Lost line.Nothing)
    lose_said v answer there told lost is = at (attempt_at n m.attempts) refl (lookup (eqb n) es) there found
      where
        at : (o : Option Attempt) → attempt_at n m.attempts ≡ o → (p : Option AttemptState) → Some v ≡ p → FoundAlike fs o p
            → IsDoneToAttempts setup fs (event.Lose n) m new (cond answer line.Lost line.Nothing)
        at None e None q alike = cc
        at None e (Some p) q alike = absurd alike
        at (Some a) e None q alike = absurd alike
        at (Some a) e (Some p) q alike =
            let same : v ≡ p = cc in
            let here : AttemptStandsFor fs a v = subst (AttemptStandsFor fs a) (sym same) alike in
            record {
              line_is =
                  ap (λ (b : Bool). cond b line.Lost line.Nothing) (told ∙ ap (λ (p : Progress). awaits_record p) here.progress)
                  ∙ sym (ap (λ (o : Option Attempt). (lose_record m n o).line) e);
              stand =
                  subst (λ (o : Option Attempt). AttemptsStandFor fs (reverse (lose_record m n o).machine.attempts) new) (sym e)
                  (subst (AttemptsStandFor fs (reverse (set_attempt n (after_lose a) m.attempts))) (sym is) (set_stand (after_lose a) s (lost a here)));
            }
