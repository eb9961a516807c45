use Rattle.std.proofs.Common.{◌≡◌, drop}
use Rattle.boki_model.specs.Script as script
use Rattle.script_run.specs.Standing.{state_of}
use Rattle.script_run.specs.Flows.{AsksSmallOrdinal}
use Rattle.script_run.specs.Running.{stop_point_from, work_left}
use Rattle.script_run.proofs.run.run.Given as goal

abbrev pub invariant-turns : goal.invariant-turns
invariant-turns l =
    AsksSmallOrdinal l.ask
    × (script.run_script l.program.functions l.depth (drop l.start l.lines) (state_of l.lines l.fn.state) ≡ stop_point_from l.program.functions l.depth l.lines l.counter (state_of l.lines l.state))

abbrev pub decreases-turns : goal.decreases-turns
decreases-turns l = work_left l.lines l.counter
