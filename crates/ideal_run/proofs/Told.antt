-- The opening, and the report.
use Rattle.std.proofs.Common.{◌≡◌, ℕ, List, [], ◌∷◌, length, Option, Some, None, option_map, refl, sym, ap, ◌∙◌, arith}
use Rattle.lb_base.specs.declared.value.Value.{Value}
use Rattle.lb_base.specs.declared.value.Outcome.{Outcome}
use Rattle.boki_types.specs.declared.program.Function.{Function}
use Rattle.boki_types.specs.declared.turn.Turn.{Turn}
use Rattle.boki_types.specs.declared.turn.Report.{Report}
use Rattle.boki_model.specs.Maps.{get}
use Rattle.boki_model.specs.MapLaws.{InOrder}
use Rattle.boki_model.proofs.KeyMaps.{same_answers}
use Rattle.boki_machine.specs.Ideal as ideal
use Rattle.boki_machine.specs.Ideal.{Ideal, Invocation, put_objects}
use Rattle.boki_machine.specs.Reports.{add_outcome, ideal_results, ideal_report}
use Rattle.ideal_run.specs.declared.kept.KnownInvocation.{KnownInvocation}
use Rattle.ideal_run.specs.declared.kept.Stored.{Stored}
use Rattle.ideal_run.specs.Kept.{Maps, IdealState, empty, unpopped_values}
use Rattle.ideal_run.specs.Standing.{map_values, BothStand, MapsStandFor}
use Rattle.ideal_run.specs.Judged.{StandsFor, results_in}
use Rattle.ideal_run.proofs.Mapped.{each_get, each_in_order}

pub opening_stands : (fs : List Function) (objects : List (List ℕ × Value)) → MapsStandFor fs (ideal.initial_ideal objects) (record empty { objects = put_objects objects })
opening_stands fs objects = record {
  objects = refl;
  queues = refl;
  fronts = λ name q is. absurd (let z : ⊥ = cc in z);
  names = refl;
  numbered = λ name. omega arith;
  invocations = λ q. tt;
  in_order = refl;
}

abbrev pub outcomes : List (List ℕ × Option Outcome) → List (List ℕ × Outcome)
outcomes [] = []
outcomes (x ∷ xs) = add_outcome x.0 x.1 (outcomes xs)

kept_outcomes : (xs : List (List ℕ × KnownInvocation)) → results_in xs ≡ outcomes (map_values (λ w. w.result) xs)
kept_outcomes [] = refl
kept_outcomes (x ∷ xs) = ap (add_outcome x.0 x.1.result) (kept_outcomes xs)

ideal_outcomes : (xs : List (List ℕ × Invocation)) → ideal_results xs ≡ outcomes (map_values (λ i. i.result) xs)
ideal_outcomes [] = refl
ideal_outcomes (x ∷ xs) = ap (add_outcome x.0 x.1.result) (ideal_outcomes xs)

both_results : (fs : List Function) (x : Maps) (depth : ℕ) (a : Option KnownInvocation) (b : Option Invocation) → BothStand fs x.names x.commits depth a b → option_map (λ w. w.result) a ≡ option_map (λ i. i.result) b
both_results fs x depth None None both = refl
both_results fs x depth None (Some i) both = absurd both
both_results fs x depth (Some w) None both = absurd both
both_results fs x depth (Some w) (Some i) both = ap (λ (o : Option Outcome). Some o) both.result

pub results_are : (fs : List Function) (m : Ideal) (x : Maps) → InOrder x.invocations → MapsStandFor fs m x → results_in x.invocations ≡ ideal_results m.invocations
results_are fs m x order stands =
    kept_outcomes x.invocations
    ∙ ap outcomes (same_answers (map_values (λ w. w.result) x.invocations) (map_values (λ i. i.result) m.invocations) (each_in_order _ x.invocations order) (each_in_order _ m.invocations stands.in_order)
    (λ q. each_get _ q x.invocations ∙ both_results fs x (length q) (get q x.invocations) (get q m.invocations) (stands.invocations q) ∙ sym (each_get _ q m.invocations)))
    ∙ sym (ideal_outcomes m.invocations)

-- what is told of an execution is the report
pub report_is : (fs : List Function) (m : Ideal) (ts : List Turn) (kept : IdealState) (r : Report) → InOrder kept.maps.invocations → StandsFor fs ts m kept
    → r.turns ≡ kept.turns → r.results ≡ results_in kept.maps.invocations → r.objects ≡ kept.maps.objects → r.queues ≡ map_values unpopped_values kept.maps.queues → r.stores ≡ map_values (λ (s : Stored). s.value) kept.maps.names
    → r ≡ ideal_report ts m
report_is fs m ts kept r order stands turns results objects queues stores = λ j. record {
  turns = (turns ∙ stands.turns) j;
  results = (results ∙ results_are fs m kept.maps order stands.maps) j;
  objects = (objects ∙ stands.maps.objects) j;
  queues = (queues ∙ stands.maps.queues) j;
  stores = (stores ∙ stands.maps.names) j;
}
