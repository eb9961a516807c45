-- Turns that are done one after another, and what that says of a text.
use Rattle.std.proofs.Common.{◌≡◌, ℕ, List, [], ◌∷◌, ◌++◌, reverse, Option, Some, None, Result, Ok, Err, refl, sym, ap, subst, ◌∙◌, append_assoc}
use Rattle.std.proofs.lemmas.List.{reverse-append}
use Rattle.boki_types.specs.declared.kind.Kind.{Kind}
use Rattle.boki_types.specs.declared.kind.Kind.TheVariants as kind
use Rattle.boki_types.specs.declared.program.Function.{Function}
use Rattle.boki_types.specs.declared.turn.Report.{Report}
use Rattle.boki_types.specs.declared.turn.Turn.{Turn}
use Rattle.boki_types.specs.declared.turn.TurnText.{TurnText}
use Rattle.boki_machine.specs.Ideal.{Ideal, apply_turn, initial_ideal}
use Rattle.boki_machine.specs.Reports.{ideal_report}
use Rattle.line_text.specs.declared.fault.TextFault.{TextFault}
use Rattle.line_text.specs.declared.fault.TextFault.TheVariants as faults
use Rattle.line_text.specs.Faults.{Fails}
use Rattle.plan_lang.specs.Printed.{report_text}
use Rattle.ideal_run.specs.Judged.{StandsFor, IsDone, IsReportOf, IsUndefined}
use Rattle.ideal_run.specs.Kept.{IdealState}
use Rattle.judge_agrees.specs.Judged.{judge_in_order, judge_rest, judge_turns, judgement}
use Rattle.judge_call.specs.Turns.{AreDone, Reports, StopsAt, TurnStops, TurnsLeadTo, turns_alone}

-- the last of a list is the first of the list the other way round
pub reversed_last : {X : Type 0} (all rest : List X) (x : X) → all ≡ rest ++ x ∷ [] → reverse all ≡ x ∷ reverse rest
reversed_last all rest x e = ap reverse e ∙ reverse-append rest (x ∷ [])

-- some turns are done, and these are left
pub record HaveCome (fs : List Function) (turns rest : List (ℕ × Turn)) (old kept : IdealState) (m : Ideal) (ts : List Turn) : Type 0 where
  pub state : Ideal
  pub done : List (ℕ × Turn)
  pub split : turns ≡ done ++ rest
  pub is : judge_in_order fs turns m ≡ judge_in_order fs rest state
  pub stands : StandsFor fs (ts ++ turns_alone done) state kept

abbrev pub Come : List Function → List (ℕ × Turn) → List (ℕ × Turn) → IdealState → IdealState → Type 0
Come fs turns rest old kept = (m : Ideal) (ts : List Turn) → StandsFor fs ts m old → HaveCome fs turns rest old kept m ts

alone_more : (done : List (ℕ × Turn)) (x : ℕ × Turn) → turns_alone (done ++ x ∷ []) ≡ turns_alone done ++ x.1 ∷ []
alone_more [] x = refl
alone_more (d ∷ ds) x = ap (λ xs. d.1 ∷ xs) (alone_more ds x)

append_none : {X : Type 0} (xs : List X) → xs ++ [] ≡ xs
append_none [] = refl
append_none (x ∷ xs) = ap (λ ys. x ∷ ys) (append_none xs)

-- at first none is done
pub come_none : (fs : List Function) (turns : List (ℕ × Turn)) (old : IdealState) → Come fs turns turns old old
come_none fs turns old m ts stands = record {
  state = m;
  done = [];
  split = refl;
  is = refl;
  stands = subst (λ (xs : List Turn). StandsFor fs xs m old) (sym (append_none ts)) stands;
}

-- the next one is done
pub come_more : (fs : List Function) (turns rest next : List (ℕ × Turn)) (x : ℕ × Turn) (old kept new : IdealState) → rest ≡ x ∷ next → Come fs turns rest old kept → IsDone fs x.1 kept new → Come fs turns next old new
come_more fs turns rest next x old kept new e come is m ts stands =
    let was = come m ts stands in
    let to = is was.state (ts ++ turns_alone was.done) was.stands in
    record {
      state = to.state;
      done = was.done ++ x ∷ [];
      split = was.split ∙ ap (λ l. was.done ++ l) e ∙ sym (append_assoc was.done (x ∷ []) next);
      is = was.is ∙ ap (λ l. judge_in_order fs l was.state) e ∙ ap (judge_rest (judge_in_order fs next) x.0) to.is;
      stands = subst (λ (xs : List Turn). StandsFor fs xs to.state new) (append_assoc ts (turns_alone was.done) (x.1 ∷ []) ∙ ap (λ l. ts ++ l) (sym (alone_more was.done x))) to.stands;
    }

-- all are done
pub come_all : (fs : List Function) (turns rest : List (ℕ × Turn)) (old new : IdealState) → rest ≡ [] → Come fs turns rest old new → AreDone fs turns old new
come_all fs turns rest old new none come m ts stands =
    let was = come m ts stands in
    let all : was.done ≡ turns = sym (append_none was.done) ∙ ap (λ l. was.done ++ l) (sym none) ∙ sym was.split in
    record {
      state = was.state;
      is = was.is ∙ ap (λ l. judge_in_order fs l was.state) none;
      stands = subst (λ (l : List (ℕ × Turn)). StandsFor fs (ts ++ turns_alone l) was.state new) all was.stands;
    }

-- the next one can't be done
pub stops_here : (fs : List Function) (turns rest next : List (ℕ × Turn)) (x : ℕ × Turn) (old kept : IdealState) (fault : TextFault) → rest ≡ x ∷ next → Come fs turns rest old kept → TurnStops fs x.0 x.1 kept fault → StopsAt fs turns old fault
stops_here fs turns rest next x old kept (faults.Refused n k) e come stops = (
  stops.1,
  λ m ts stands.
      let was = come m ts stands in
      was.is ∙ ap (λ l. judge_in_order fs l was.state) e
      ∙ ap (judge_rest (judge_in_order fs next) x.0) (stops.2 was.state (ts ++ turns_alone was.done) was.stands)
      ∙ ap (λ (i : ℕ). Err i) (sym stops.0),
)
stops_here fs turns rest next x old kept faults.Memory e come stops = tt

-- What is told of a text.
pub reported : (t : TurnText) (opened kept : IdealState) (r : Report) → let fs = t.plan.program.functions in
    StandsFor fs [] (initial_ideal t.plan.objects) opened → AreDone fs t.turns opened kept → IsReportOf kept r → Reports t (Ok r)
reported t opened kept r start done is =
    let fs = t.plan.program.functions in
    let to = done (initial_ideal t.plan.objects) [] start in
    ap (judgement fs (turns_alone t.turns)) to.is
    ∙ ap (λ (x : Report). Ok (report_text fs x)) (sym (is fs to.state (turns_alone t.turns) to.stands))

pub stopped : (t : TurnText) (opened : IdealState) (fault : TextFault) → let fs = t.plan.program.functions in
    StandsFor fs [] (initial_ideal t.plan.objects) opened → StopsAt fs t.turns opened fault → Reports t (Err fault)
stopped t opened (faults.Refused n k) start stops =
    let fs = t.plan.program.functions in
    ap (judgement fs (turns_alone t.turns)) (stops.1 (initial_ideal t.plan.objects) [] start)
    ∙ ap (λ (i : Kind). Err (faults.Refused n i)) (sym stops.0)
stopped t opened faults.Memory start stops = tt
