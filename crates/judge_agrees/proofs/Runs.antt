-- The events that were done have texts that are UTF-8, and so the law of any events holds of them.
use Rattle.std.proofs.Common.{◌≡◌, ℕ, List, [], ◌∷◌, ◌++◌, sym, subst}
use Rattle.std.specs.List.{AllByRecursion}
use Rattle.boki_types.specs.declared.event.Event.{Event}
use Rattle.boki_types.specs.declared.plan.Setup.{Setup}
use Rattle.boki_types.specs.declared.program.Function.{Function}
use Rattle.boki_model.specs.Plans.{events}
use Rattle.boki_machine.specs.Machine.{Machine, initial_machine, apply_events}
use Rattle.exactly_once.proofs.Log.ListElements.{each_append}
use Rattle.plan_lang.proofs.PlansInLimits.{parsed_plan_is_plan}
use Rattle.run_with.specs.Runs.{Output, Planned, Added, Ignored, RunState, state, run_from, run_with, performed}
use Rattle.run_with.proofs.Told.{run_has}
use Rattle.run_with.proofs.Laws.{runs_are_performed, performed_may_happen}
use Rattle.judge_agrees.specs.Counts.{turns_of_log, HaveAtMost}
use Rattle.judge_agrees.specs.Laws.{turns_printed, IsWithinTextLimits, IsJudged}
use Rattle.judge_agrees.specs.Requests.{SubmitsUtf8}
use Rattle.judge_agrees.proofs.Judging.{judge_agrees, plan_gives_texts}
use Rattle.judge_agrees.specs.Runs.{AddedGiveTexts, RunsAreJudged}

both_give : (xs ys : List Output) → AddedGiveTexts (xs ++ ys) → AddedGiveTexts xs × AddedGiveTexts ys
both_give [] ys all = (tt, all)
both_give (Planned n line ∷ xs) ys all = both_give xs ys all
both_give (Added n i e line ∷ xs) ys all = let rest = both_give xs ys all.1 in ((all.0, rest.0), rest.1)
both_give (Ignored n i ∷ xs) ys all = both_give xs ys all

performed_give :
    (t : Setup) (fs : List Function) (n : ℕ) (es : List Event) (s : RunState) → AllByRecursion SubmitsUtf8 es
    → AddedGiveTexts (run_from t fs n es s).lines → AllByRecursion SubmitsUtf8 (run_from t fs n es s).performed
performed_give t fs =
    run_has t fs SubmitsUtf8 (λ m told. AddedGiveTexts told.lines → AllByRecursion SubmitsUtf8 told.performed)
    (λ s all. tt)
    (λ n e s gives all. (gives, tt))
    (λ n i e s ok all. (all.0, tt))
    (λ n i s all. tt)
    (λ m a b one two all. let parts = both_give a.lines b.lines all in each_append SubmitsUtf8 a.performed b.performed (one parts.0) (two parts.1))

pub runs_are_judged : RunsAreJudged
runs_are_judged text plan kept e given few within =
    let fs = plan.program.functions in
    let es = performed plan kept in
    let m : Machine = (run_with plan kept).after.machine in
    let same : m ≡ (apply_events plan.setup fs es (initial_machine plan.setup plan.objects)).machine = (runs_are_performed plan kept).machine in
    let texts : AllByRecursion SubmitsUtf8 es =
    performed_give plan.setup fs 1 (events plan.items) (state (initial_machine plan.setup plan.objects) kept) (plan_gives_texts text plan e) given in
    let judged = judge_agrees text plan es e (performed_may_happen plan kept (parsed_plan_is_plan text plan e)) texts
    (subst (λ (k : Machine). HaveAtMost 200000 (turns_of_log fs k)) same few) (subst (λ (k : Machine). IsWithinTextLimits (turns_printed plan k)) same within) in
    subst (λ (k : Machine). IsJudged plan k) (sym same) judged
