use Rattle.std.proofs.Common.{◌≡◌, ◌+◌, ◌≤◌, ℕ, List, drop, Some}
use Rattle.boki_types.specs.declared.program.Stmt.{Stmt}
use Rattle.boki_types.specs.declared.program.Function.{Function}
use Rattle.boki_model.specs.Script as script
use Rattle.script_run.specs.Standing.{state_of}
use Rattle.script_run.proofs.skip.skip.Given as goal

abbrev pub invariant-lines : goal.invariant-lines
invariant-lines l =
    (l.inner + l.start ≤ l.at)
    × ((functions : List Function) (depth : ℕ) (enter : List Stmt → script.State → script.StopPoint) → script.execute_from functions depth enter (Some l.inner) (drop l.at l.lines) (state_of l.lines l.state) ≡ script.execute_from functions depth enter (Some 0) (drop l.start l.lines) (state_of l.lines l.fn.state))
