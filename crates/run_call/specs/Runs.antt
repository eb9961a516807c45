-- What a run of a plan writes, and that it is exactly once.
use Rattle.std.specs.Prelude.{◌≡◌, ℕ, Bool, true, false, List, ◌++◌, Option, Some, Ok}
use Rattle.lb_base.specs.Devices.{Appends}
use Rattle.boki_types.specs.declared.plan.Plan.{Plan}
use Rattle.boki_types.specs.declared.program.Function.{Function}
use Rattle.boki_types.specs.declared.turn.Report.{Report}
use Rattle.boki_machine.specs.Ideal.{Ideal, run_turns, initial_ideal}
use Rattle.boki_machine.specs.Reports.{report, ideal_report}
use Rattle.nemesis_types.specs.Kept.{NumberedNemesis}
use Rattle.run_with.specs.Laws.{RunGuarantees}
use Rattle.run_with.specs.Runs.{run_with}
use Rattle.run_with.specs.Written.{text_of_lines}
use Rattle.plan_lang.specs.Printed.{report_text}
use Rattle.plan_lang.specs.Texts.{plan_of}
use Rattle.report_json.specs.Json.{json_text}
use Rattle.output_lines.specs.Outputs.{output_text}
use Rattle.call_base.specs.declared.status.Status.TheVariants.{Done}
use Rattle.call_base.specs.Due.{Due, due, due_by}

-- a report as text: its lines, or one line of JSON
abbrev pub text_of_report : Bool → List Function → Report → List ℕ
text_of_report false fs r = report_text fs r
text_of_report true fs r = json_text fs r

-- the lines of the run of a plan with these nemeses
abbrev pub lines_of_run : Plan → List NumberedNemesis → List ℕ
lines_of_run plan kept = text_of_lines (output_text plan.program.functions) (run_with plan kept).lines

-- the report of the machine behind that run
abbrev pub report_of_run : Plan → List NumberedNemesis → Report
report_of_run plan kept = report plan.program.functions (run_with plan kept).after.machine

-- all that is written: the lines, and behind them the report
abbrev pub run_text : Bool → Plan → List NumberedNemesis → List ℕ
run_text json plan kept =
    lines_of_run plan kept ++ text_of_report json plan.program.functions (report_of_run plan kept)

-- `run`: the run of the plan that the text spells
abbrev pub run_due : Bool → List NumberedNemesis → List ℕ → Due
run_due json kept text = due_by (λ plan. due Done (run_text json plan kept)) (plan_of text)

-- **What was written is exactly once.** The text spells a plan. The sink gained exactly the lines of the run of this plan with these
-- nemeses, and behind them the text of the report of that run. And from the plan's objects the failure-free execution of this
-- report's turns, which has no log, attempt or store, is defined, and its report is this very report.
pub record IsExactRun (json : Bool) (kept : List NumberedNemesis) (text : List ℕ) (old new : Option (List ℕ)) : Type 0 where
  pub plan : Plan
  pub spelled : plan_of text ≡ Ok plan
  pub wrote : Appends old new (lines_of_run plan kept ++ text_of_report json plan.program.functions (report_of_run plan kept))
  pub state : Ideal
  pub defined :
      run_turns plan.program.functions (report_of_run plan kept).turns (initial_ideal plan.objects) ≡ Some state
  pub exact : ideal_report (report_of_run plan kept).turns state ≡ report_of_run plan kept

-- what holds of the machine behind the run of the plan that the text spells
abbrev pub RunsByLaws : List NumberedNemesis → List ℕ → Type 0
RunsByLaws kept text = (plan : Plan) → plan_of text ≡ Ok plan → RunGuarantees plan (run_with plan kept).after.machine
