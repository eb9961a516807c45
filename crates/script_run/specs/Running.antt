-- A run from a line on, and the work that is left there at most.
use Rattle.std.specs.Prelude.{ℕ, ◌+◌, ◌-◌, ◌*◌, List, length, drop, None}
use Rattle.boki_types.specs.declared.program.Stmt.{Stmt}
use Rattle.boki_types.specs.declared.program.Function.{Function}
use Rattle.boki_model.specs.Script as script
use Rattle.script_run.specs.declared.run.ProgramCounter.{ProgramCounter}

-- where the script stops that goes on from a line
abbrev pub stop_point_from : List Function → ℕ → List Stmt → ProgramCounter → script.State → script.StopPoint
stop_point_from fs depth lines counter t = script.execute_from fs depth (script.enter_body fs depth counter.left) None (drop counter.at lines) t

-- each line is done at most once for each entry that is left, and once more
abbrev pub work_left : List Stmt → ProgramCounter → ℕ
work_left lines counter = counter.left * (length lines + 1) + (length lines - counter.at)
