-- Record by record, and operation by operation.
use Rattle.std.proofs.Common.{◌≡◌, ℕ, zero, suc, ◌≤◌, Bool, true, eqb, List, [], ◌∷◌, ◌++◌, Option, Some, None, Ok, Err, Result, ◌⊎◌, inl, inr, ◌<◌, refl, sym, ap, ◌∙◌, subst, arith}
use Rattle.std.specs.Prelude.{option_and_then}
use Rattle.std.proofs.lemmas.Bool.{cases_lt, eq-eqb, or_left, or_right}
use Rattle.lb_base.specs.declared.value.Value.{Value}
use Rattle.lb_base.specs.declared.value.Mode.{Mode}
use Rattle.boki_types.specs.declared.body.Body.{Body}
use Rattle.boki_types.specs.declared.operation.Ask.{Ask}
use Rattle.boki_types.specs.declared.program.Function.{Function}
use Rattle.boki_types.specs.declared.turn.Report.{Report}
use Rattle.boki_types.specs.declared.turn.Turn.TheVariants as t
use Rattle.boki_model.specs.Live.{Live, is_live}
use Rattle.boki_model.specs.Bodies.{step_of}
use Rattle.boki_machine.specs.Turns.{turns, add_next_index}
use Rattle.boki_machine.specs.Ideal.{Ideal}
use Rattle.boki_machine.specs.Reports.{ideal_report}
use Rattle.boki_model.specs.Values.{same_value}
use Rattle.legal_logs.specs.Same.{same_outcome, same_names, same_values, same_writes}
use Rattle.legal_logs.specs.Legal.{Audited, turn_if, go_if, audit_record, or_illegal, and_record, legal_to, state_behind, audited_report}
use Rattle.legal_logs.specs.OneByOne.{ahead_over, GoesOneByOne, TestsTell}
use Rattle.legal_logs.proofs.Same.{value_itself, value_equal, outcome_itself, outcome_equal, names_itself, names_equal, values_itself, values_equal, writes_itself, writes_equal, is_itself, is_equal}

over_one_more : (newer : List (Live Body)) (x : Live Body) (ahead : List (List ℕ × ℕ)) → ahead_over (newer ++ x ∷ []) ahead ≡ add_next_index (step_of x.holds) (ahead_over newer ahead)
over_one_more [] x ahead = refl
over_one_more (y ∷ newer) x ahead = over_one_more newer x (add_next_index (step_of y.holds) ahead)

module _ (fs : List Function) (first : Mode) (objects : List (List ℕ × Value)) where
  illegal_stays : (newer older : List (Live Body)) (ahead : List (List ℕ × ℕ)) (seq : ℕ) → legal_to fs first objects (ahead_over newer ahead) older ≡ Err seq → legal_to fs first objects ahead (newer ++ older) ≡ Err seq
  illegal_stays [] older ahead seq e = e
  illegal_stays (x ∷ newer) older ahead seq e =
      ap (and_record fs first ahead x (newer ++ older)) (illegal_stays newer older (add_next_index (step_of x.holds) ahead) seq e)

  illegal_there : (xs : List (Live Body)) (ahead : List (List ℕ × ℕ)) (seq : ℕ) → legal_to fs first objects ahead xs ≡ Err seq → is_live seq xs ≡ true
  illegal_there [] ahead seq e = let no_way : ◌≡◌ {A = Result Audited ℕ} (Ok (record { state = _; begun = [] })) (Err seq) = e in cc
  illegal_there (x ∷ xs) ahead seq e = at (legal_to fs first objects (add_next_index (step_of x.holds) ahead) xs) (illegal_there xs (add_next_index (step_of x.holds) ahead) seq) e
    where
      one : (o : Option Audited) → or_illegal x.seq o ≡ Err seq → is_live seq (x ∷ xs) ≡ true
      one None e = let h : ◌≡◌ {A = Result Audited ℕ} (Err x.seq) (Err seq) = e in let same : seq ≡ x.seq = cc in or_left (eqb seq x.seq) (is_live seq xs) (eq-eqb seq x.seq same)
      one (Some a) e = let no_way : ◌≡◌ {A = Result Audited ℕ} (Ok a) (Err seq) = e in cc

      at : (r : Result Audited ℕ) → (r ≡ Err seq → is_live seq xs ≡ true) → and_record fs first ahead x xs r ≡ Err seq → is_live seq (x ∷ xs) ≡ true
      at (Err other) rest e = or_right (eqb seq x.seq) (is_live seq xs) (rest e)
      at (Ok a) rest e = one (audit_record fs first ahead x.seq xs a x.holds) e

  told_illegal : (records : List (Live Body)) (r : Result Audited ℕ) (seq : ℕ) → audited_report (turns fs [] records) (state_behind r) ≡ Err seq → r ≡ Err seq
  told_illegal records (Err other) seq e = let h : ◌≡◌ {A = Result Report ℕ} (Err other) (Err seq) = e in let same : other ≡ seq = cc in ap Err same
  told_illegal records (Ok a) seq e = let no_way : ◌≡◌ {A = Result Report ℕ} (Ok (ideal_report (turns fs [] records) a.state)) (Err seq) = e in cc

module _ (fs : List Function) (tests : ℕ → Ask → Bool) (p : List ℕ) (s : Ideal) where
  refused_stays : (n most : ℕ) → n ≤ most → go_if fs tests n p s ≡ None → go_if fs tests most p s ≡ None
  refused_stays n zero le e = subst (λ n. go_if fs tests n p s ≡ None) (let z : n ≡ 0 = omega (arith, le) in z) e
  refused_stays n (suc most) le e = at (cases_lt n (suc most)) (λ le. refused_stays n most le e)
    where
      at : (n < suc most) ⊎ (suc most ≤ n) → (n ≤ most → go_if fs tests most p s ≡ None) → go_if fs tests (suc most) p s ≡ None
      at (inl lt) rest = ap (option_and_then (turn_if fs (tests most) p (t.Go p 1))) (rest (omega (arith, lt)))
      at (inr ge) rest = subst (λ n. go_if fs tests n p s ≡ None) (let same : n ≡ suc most = omega (arith, le, ge) in same) e

pub goes_one_by_one : GoesOneByOne
goes_one_by_one = record {
  ahead = over_one_more;
  first_illegal = λ fs first objects newer older seq e. ap (λ r. audited_report (turns fs [] (newer ++ older)) (state_behind r)) (illegal_stays fs first objects newer older [] seq e);
  is_there = λ fs first objects records seq e. illegal_there fs first objects records [] seq (told_illegal fs first objects records (legal_to fs first objects [] records) seq e);
  refused = λ fs tests n most p s le e. refused_stays fs tests p s n most le e;
}

pub tests_tell : TestsTell
tests_tell = record {
  values = λ v w. (value_equal v w, λ e. ap (same_value v) (sym e) ∙ value_itself v);
  outcomes = λ o p. (outcome_equal o p, λ e. ap (same_outcome o) (sym e) ∙ outcome_itself o);
  lists_of_names = λ xs ys. (names_equal xs ys, λ e. ap (same_names xs) (sym e) ∙ names_itself xs);
  lists_of_values = λ xs ys. (values_equal xs ys, λ e. ap (same_values xs) (sym e) ∙ values_itself xs);
  lists_of_writes = λ xs ys. (writes_equal xs ys, λ e. ap (same_writes xs) (sym e) ∙ writes_itself xs);
  numbers = λ o n. (is_equal o n, λ e. is_itself o n e);
}
