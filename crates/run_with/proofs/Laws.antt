-- The laws of runs with nemeses.
use Rattle.std.proofs.Common.{◌≡◌, ◌≤◌, true, List, length, sym, ap, subst, arith}
use Rattle.std.specs.Prelude.{IsTrue}
use Rattle.std.specs.List.{list_all, AllByRecursion}
use Rattle.std.proofs.lemmas.Bool.{and_parts, leb-true}
use Rattle.boki_types.specs.declared.plan.Setup.{Setup}
use Rattle.boki_types.specs.declared.plan.Plan.{Plan}
use Rattle.boki_types.specs.declared.program.Function.{Function}
use Rattle.boki_model.specs.Plans.{is_event, is_item, is_plan, events, total_events}
use Rattle.boki_machine.specs.Machine.{Machine, log, initial_machine}
use Rattle.nemesis_types.specs.Kept.{NumberedNemesis}
use Rattle.exactly_once.specs.FurtherLaws.LogEconomy.{EndedAreEconomic}
use Rattle.exactly_once.specs.FurtherLaws.EndedInvocations.{EndedHaveNoEffect}
use Rattle.exactly_once.specs.Induction.EventKeeps.{EventsKeepInvariant}
use Rattle.exactly_once.specs.Theorem.ExactlyOnce.{IsExact}
use Rattle.exactly_once.specs.FurtherLaws.StoreBound.{HeldOnce}
use Rattle.exactly_once.specs.FurtherLaws.DecidedAnswers.{DecidedAnswersStay}
use Rattle.exactly_once.specs.FurtherLaws.AnyEvents.{AfterEvents, DuplicatesAgree}
use Rattle.exactly_once.proofs.Log.ModesAndFloors.{modes_exclude}
use Rattle.exactly_once.proofs.OldVersions.VersionKeeps.{versions_keep}
use Rattle.exactly_once.proofs.Attempts.StepKeeps.{moves_keep}
use Rattle.exactly_once.proofs.Attempts.LostAnswerKeeps.{misses_keep}
use Rattle.exactly_once.proofs.Machines.EventKeeps.{events_keep}
use Rattle.exactly_once.proofs.Machines.ExactlyOnce.{valid_events, events_are_exact}
use Rattle.exactly_once.proofs.AfterEvents.StoreBound.{held_once}
use Rattle.exactly_once.proofs.AfterEvents.AnyEvents.{duplicates_agree, ended_are_left, ended_are_economic, decided_answers_stay}
use Rattle.run_with.specs.Runs.{state, run_with, performed}
use Rattle.run_with.specs.Laws.{RunsArePerformed, PerformedMayHappen, RunsAreExact, PlainRuns, LawsStay, PerformedAreFew}
use Rattle.run_with.proofs.Performed.{run_is, run_may}
use Rattle.run_with.proofs.Going.{length_events}
use Rattle.run_with.proofs.Plain.{run_plain}
use Rattle.run_with.proofs.Remain.{remain_run}
use Rattle.run_with.proofs.Counts.{run_few}

pub runs_are_performed : RunsArePerformed
runs_are_performed plan kept = run_is plan.setup plan.program.functions 1 (events plan.items) (state (initial_machine plan.setup plan.objects) kept)

-- the events of a plan
pub plan_events : (plan : Plan) → IsTrue (is_plan plan) → AllByRecursion (λ e. IsTrue (is_event plan.setup plan.program.functions e)) (events plan.items)
plan_events plan ok =
    let items : list_all (is_item plan.setup plan.program.functions) plan.items ≡ true = (and_parts _ _ (and_parts _ _ ok).0).1 in
    valid_events plan.setup plan.program.functions plan.items items

few_weights : (plan : Plan) → IsTrue (is_plan plan) → total_events plan.items ≤ 200000
few_weights plan ok = leb-true (total_events plan.items) 200000 (and_parts _ _ ok).1

-- and how many there are
pub plan_few : (plan : Plan) → IsTrue (is_plan plan) → length (events plan.items) ≤ 200000
plan_few plan ok = omega (arith, few_weights plan ok, length_events plan.items)

pub performed_may_happen : PerformedMayHappen
performed_may_happen plan kept ok =
    run_may plan.setup plan.program.functions 1 (events plan.items) (state (initial_machine plan.setup plan.objects) kept) (plan_events plan ok)

-- a law behind any events holds behind a run
pub after_run : (Law : Setup → List Function → Machine → Type 0) → AfterEvents Law → (plan : Plan) (kept : List NumberedNemesis) → IsTrue (is_plan plan) → Law plan.setup plan.program.functions (run_with plan kept).after.machine
after_run Law law plan kept ok =
    subst (Law plan.setup plan.program.functions) (sym (runs_are_performed plan kept).machine)
    (law plan.setup plan.program.functions plan.objects (performed plan kept) (performed_may_happen plan kept ok))

keep : EventsKeepInvariant
keep = events_keep (moves_keep versions_keep) (misses_keep versions_keep)

pub runs_are_exact : RunsAreExact
runs_are_exact plan kept ok =
    let setup = plan.setup in
    let fs = plan.program.functions in
    let is : IsExact fs plan.objects (run_with plan kept).after.machine =
    subst (IsExact fs plan.objects) (sym (runs_are_performed plan kept).machine)
    (events_are_exact keep setup fs plan.objects (performed plan kept) (performed_may_happen plan kept ok)) in
    record {
      printed = record { state = is.state; defined = is.defined; reported = is.reported };
      exact = is;
      duplicates = after_run DuplicatesAgree (duplicates_agree keep) plan kept ok;
      decided = after_run DecidedAnswersStay (decided_answers_stay keep) plan kept ok;
      economic = after_run EndedAreEconomic (ended_are_economic keep) plan kept ok;
      left = after_run EndedHaveNoEffect (ended_are_left keep) plan kept ok;
      modes = modes_exclude setup.mode (log (run_with plan kept).after.machine);
      held = after_run HeldOnce (held_once keep) plan kept ok;
    }

pub plain_runs : PlainRuns
plain_runs plan =
    let is = run_plain plan.setup plan.program.functions 1 (events plan.items) (initial_machine plan.setup plan.objects) in
    record {
      lines = ap (λ t. t.lines) is;
      performed = ap (λ t. t.performed) is;
      machine = ap (λ t. t.after.machine) is;
      kept = ap (λ t. t.after.kept) is;
    }

pub laws_stay : LawsStay
laws_stay plan kept = remain_run plan.setup plan.program.functions 1 (events plan.items) (state (initial_machine plan.setup plan.objects) kept)

pub performed_are_few : PerformedAreFew
performed_are_few plan kept = run_few plan.setup plan.program.functions 1 (events plan.items) (state (initial_machine plan.setup plan.objects) kept)
