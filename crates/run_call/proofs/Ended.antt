-- A run that ends before it has its plan, and one that is exactly once.
use Rattle.std.proofs.Common.{◌≡◌, ◌≢◌, ℕ, Bool, List, [], Option, Some, None, Result, Ok, Err, refl, subst}
use Rattle.std.specs.Prelude.{IfSome}
use Rattle.lb_base.proofs.DeviceLemmas.{AppendsPrefix-none}
use Rattle.boki_types.specs.declared.plan.Plan.{Plan}
use Rattle.line_text.specs.declared.fault.TextFault.{TextFault}
use Rattle.line_text.specs.declared.fault.TextFault.TheVariants as faults
use Rattle.plan_lang.specs.Texts.{plan_of, plan_of_lines}
use Rattle.plan_lang.proofs.PlansInLimits.{parsed_plan_is_plan}
use Rattle.nemesis_types.specs.Kept.{NumberedNemesis}
use Rattle.run_with.proofs.Laws.{runs_are_exact}
use Rattle.call_base.specs.declared.status.Status.{Status}
use Rattle.call_base.specs.declared.status.Status.TheVariants.{Done, Refused, Usage, Memory}
use Rattle.call_base.specs.Due.{Due, Meets, due, due_by, within}
use Rattle.call_base.proofs.DueLemmas.{ended_is}
use Rattle.command_line.specs.declared.request.With.{With}
use Rattle.run_call.specs.Runs.{IsExactRun, RunsByLaws, run_due, run_text}

-- a call that ends before it has its text ends as is due on the text, whatever is due on a plan
pub ended_plan : (s : Status) (o old new : Option (List ℕ)) → IfSome o (λ text. (d : List ℕ → Due) → Meets s (within 1048576 d text) old new)
    → IfSome o (λ text. (f : Plan → Due) → Meets s (due_by f (plan_of text)) old new)
ended_plan s None old new h = tt
ended_plan s (Some text) old new h = λ f. ended_is 1048576 f plan_of_lines s (Some text) old new h

-- the laws hold of each plan that a text spells
pub laws_of_text : (kept : List NumberedNemesis) (text : List ℕ) → RunsByLaws kept text
laws_of_text kept text = λ plan e. runs_are_exact plan kept (parsed_plan_is_plan text plan e)

pub laws_of : (kept : List NumberedNemesis) (o : Option (List ℕ)) → IfSome o (λ text. RunsByLaws kept text)
laws_of kept None = tt
laws_of kept (Some text) = laws_of_text kept text

-- where Done meets what is due, the text spells a plan, and its whole run was written
exact_by : (json : Bool) (kept : List NumberedNemesis) (text : List ℕ) (old new : Option (List ℕ)) (r : Result Plan TextFault) → plan_of text ≡ r
    → Meets Done (due_by (λ plan. due Done (run_text json plan kept)) r) old new → IsExactRun json kept text old new
exact_by json kept text old new (Ok plan) e m =
    let told = (laws_of_text kept text plan e).printed in
    record { plan = plan; spelled = e; wrote = m.1; state = told.state; defined = told.defined; exact = told.reported }
exact_by json kept text old new (Err (faults.Refused n k)) e m = let h : Refused n k ≡ Done = m.0 in absurd cc
exact_by json kept text old new (Err faults.Memory) e m = let h : Memory ≡ Done = m.0 in absurd cc

pub exact_run : (s : Status) (json : Bool) (kept : List NumberedNemesis) (o old new : Option (List ℕ)) → s ≡ Done → IfSome o (λ text. Meets s (run_due json kept text) old new)
    → IfSome o (λ text. IsExactRun json kept text old new)
exact_run s json kept None old new e m = tt
exact_run s json kept (Some text) old new e m =
    let P : Status → Type 0 = λ x. Meets x (run_due json kept text) old new in
    exact_by json kept text old new (plan_of text) refl (subst P e m)

-- nothing was written where there was no room
pub no_run : (json : Bool) (kept : List NumberedNemesis) (o old : Option (List ℕ)) → IfSome o (λ text. Meets Memory (run_due json kept text) old old)
no_run json kept None old = tt
no_run json kept (Some text) old = AppendsPrefix-none old _

pub no_run_asked : (asked : Option (Option With × Bool)) (keeps : Option With → List NumberedNemesis) (o old : Option (List ℕ))
    → IfSome asked (λ a. (Memory ≢ Usage) × IfSome o (λ text. Meets Memory (run_due a.1 (keeps a.0) text) old old))
no_run_asked None keeps o old = tt
no_run_asked (Some a) keeps o old = (λ e. cc, no_run a.1 (keeps a.0) o old)

pub laws_asked : (asked : Option (Option With × Bool)) (keeps : Option With → List NumberedNemesis) (o : Option (List ℕ)) → IfSome asked (λ a. IfSome o (λ text. RunsByLaws (keeps a.0) text))
laws_asked None keeps o = tt
laws_asked (Some a) keeps o = laws_of (keeps a.0) o
