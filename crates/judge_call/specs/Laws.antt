-- What a run printed is judged to its report.
use Rattle.std.specs.Prelude.{◌≡◌, ℕ, List, Ok}
use Rattle.boki_types.specs.declared.plan.Plan.{Plan}
use Rattle.boki_types.specs.declared.turn.Report.{Report}
use Rattle.boki_machine.specs.Machine.{run_plan}
use Rattle.boki_machine.specs.Reports.{report}
use Rattle.nemesis_types.specs.Kept.{NumberedNemesis}
use Rattle.run_with.specs.Runs.{run_with}
use Rattle.plan_lang.specs.Printed.{report_text}
use Rattle.plan_lang.specs.Texts.{plan_of}
use Rattle.call_base.specs.declared.status.Status.TheVariants.{Done}
use Rattle.call_base.specs.Due.{due}
use Rattle.judge_agrees.specs.Counts.{HaveAtMost}
use Rattle.judge_agrees.specs.Laws.{text_with, IsWithinTextLimits}
use Rattle.judge_agrees.specs.Runs.{AddedGiveTexts}
use Rattle.judge_agrees.specs.Judged.{judge_due}

-- the text that is made of the plan's head and the report's turns is judged to this report
abbrev pub IsJudgedTo : Plan → Report → Type 0
IsJudgedTo plan r = judge_due (text_with plan r.turns) ≡ due Done (report_text plan.program.functions r)

-- So it is for the report of a plan that a text spells, run with any nemeses: where the text of the turns is within the limits
-- of one, its counts of operations too, and the texts that the nemeses gave are UTF-8.
abbrev pub JudgeAgrees : Type 0
JudgeAgrees =
    (text : List ℕ) (plan : Plan) (kept : List NumberedNemesis) → plan_of text ≡ Ok plan → AddedGiveTexts (run_with plan kept).lines
    → let r = report plan.program.functions (run_with plan kept).after.machine in
    HaveAtMost 200000 r.turns → IsWithinTextLimits (text_with plan r.turns) → IsJudgedTo plan r

-- And for the report of the plan alone, where the text of the turns is within the limits.
abbrev pub JudgeAgreesAlone : Type 0
JudgeAgreesAlone =
    (text : List ℕ) (plan : Plan) → plan_of text ≡ Ok plan
    → let r = report plan.program.functions (run_plan plan).machine in
    IsWithinTextLimits (text_with plan r.turns) → IsJudgedTo plan r
