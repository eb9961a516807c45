-- The marks of a log tell which seqnums are live.
use Rattle.std.proofs.Common.{◌≡◌, ℕ, zero, suc, ◌≤◌, Bool, true, false, cond, ◌||◌, eqb, List, [], ◌∷◌, length, reverse, slice_get, Some, unwrap_or, refl, sym, ap, ◌∙◌, arith}
use Rattle.std.proofs.lemmas.Bool.{eqb-true, ne_eqb, eq-eqb}
use Rattle.std.proofs.lemmas.Bool.Decides.{nat_tests}
use Rattle.std.proofs.lemmas.List.{length-reverse}
use mathlib.Core.List.{reverse-cons}
use Rattle.boki_model.specs.Live.{LogRecord, Live, meets_condition, live, is_live}
use Rattle.boki_model.specs.LogLaws.{FallBelow}
use Rattle.boki_model.proofs.Logs.{live_falls, slice_get_push}
use Rattle.eng_index.specs.IndexState.{marks_of, mark_at}

same_test : (i j : ℕ) → eqb (suc i) (suc j) ≡ eqb i j
same_test i j = grind (arith, nat_tests)

module _ {A : Type 0} where
  pub length-marks_of : (log : List (LogRecord A)) → length (marks_of log) ≡ length log
  length-marks_of [] = refl
  length-marks_of (r ∷ log) = ap suc (length-marks_of log)

  zero_is_dead : (n : ℕ) (xs : List (Live A)) → FallBelow n xs → is_live 0 xs ≡ false
  zero_is_dead n [] fall = refl
  zero_is_dead n (x ∷ xs) fall = ap (λ b. b || is_live 0 xs) (ne_eqb 0 x.seq (λ e. omega (arith, e, fall.0))) ∙ zero_is_dead x.seq xs fall.2

  past_is_dead : (n seq : ℕ) (xs : List (Live A)) → FallBelow n xs → n ≤ seq → is_live seq xs ≡ false
  past_is_dead n seq [] fall le = refl
  past_is_dead n seq (x ∷ xs) fall le = ap (λ b. b || is_live seq xs) (ne_eqb seq x.seq (λ e. omega (arith, e, fall.1))) ∙ past_is_dead x.seq seq xs fall.2 (omega (arith, fall.1))

  pub live_at : (seq : ℕ) (log : List (LogRecord A)) → is_live seq (live log) ≡ mark_at seq (reverse (marks_of log))
  live_at zero log = zero_is_dead (suc (length log)) (live log) (live_falls log)
  live_at (suc at) [] = refl
  live_at (suc at) (r ∷ log) =
      new (live_at (suc at) log) (meets_condition r.condition (live log)) (eqb at (length log)) refl
      ∙ ap (λ n. unwrap_or (cond (eqb at n) (Some (meets_condition r.condition (live log))) (slice_get (reverse (marks_of log)) at)) false) (sym (length-reverse (marks_of log) ∙ length-marks_of log))
      ∙ ap (λ o. unwrap_or o false) (sym (slice_get_push (reverse (marks_of log)) (meets_condition r.condition (live log)) at))
      ∙ ap (λ l. unwrap_or (slice_get l at) false) (sym (reverse-cons (meets_condition r.condition (live log)) (marks_of log)))
    where
      new : is_live (suc at) (live log) ≡ unwrap_or (slice_get (reverse (marks_of log)) at) false → (m t : Bool) → eqb at (length log) ≡ t
          → is_live (suc at) (cond m (record { seq = suc (length log); tags = r.tags; holds = r.holds } ∷ live log) (live log)) ≡ unwrap_or (cond t (Some m) (slice_get (reverse (marks_of log)) at)) false
      new ih true true e = ap (λ b. b || is_live (suc at) (live log)) (eq-eqb (suc at) (suc (length log)) (ap suc (eqb-true at (length log) e)))
      new ih true false e = ap (λ b. b || is_live (suc at) (live log)) (same_test at (length log) ∙ e) ∙ ih
      new ih false true e = past_is_dead (suc (length log)) (suc at) (live log) (live_falls log) (omega (arith, eqb-true at (length log) e))
      new ih false false e = ih
