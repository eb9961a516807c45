-- What it means that a worked run with nemeses comes out right.
use Rattle.std.specs.Prelude.{◌≡◌, true, List, Some, option_map}
use Rattle.boki_types.specs.declared.plan.Plan.{Plan}
use Rattle.boki_types.specs.declared.turn.Report.{Report}
use Rattle.boki_model.specs.Plans.{is_plan}
use Rattle.boki_machine.specs.Ideal.{run_turns, initial_ideal}
use Rattle.boki_machine.specs.Reports as reports
use Rattle.nemesis_types.specs.Kept.{NumberedNemesis}
use Rattle.run_with.specs.Runs.{Output, run_with}

-- The plan is one, and its run with these nemeses gives exactly these lines and this report. The failure-free
-- execution of the report's turns is defined, and gives the same report.
pub record ComputesWith (plan : Plan) (kept : List NumberedNemesis) (out : List Output) (told : Report) : Type 0 where
  pub valid : is_plan plan ≡ true
  pub lines : (run_with plan kept).lines ≡ out
  pub report : reports.report plan.program.functions (run_with plan kept).after.machine ≡ told
  pub executed :
      option_map (reports.ideal_report told.turns) (run_turns plan.program.functions told.turns (initial_ideal plan.objects)) ≡ Some told
