-- Frames: what they keep, and what a frame stands for.
use Rattle.std.specs.Prelude.{◌≡◌, ℕ, List, [], Option, Some, None}
use Rattle.lb_base.specs.declared.value.Value.{Value}
use Rattle.boki_types.specs.declared.program.Stmt.{Stmt}
use Rattle.boki_types.specs.declared.program.Function.{Function}
use Rattle.boki_types.specs.declared.operation.Ask.{Ask}
use Rattle.boki_types.specs.declared.operation.Answer.{Answer}
use Rattle.boki_types.specs.Finding.{function_at}
use Rattle.boki_model.specs.Script as script
use Rattle.script_run.specs.Standing.{LocalState, state_from, stop_point_at}

-- A frame's function and depth, what it asks, the number of the line that asks, and what the script has made.
pub record FrameState : Type 0 where
  pub function : ℕ
  pub depth : ℕ
  pub at : ℕ
  pub ask : Ask
  pub made : LocalState

abbrev pub lines_of : Option Function → List Stmt
lines_of (Some f) = f.lines
lines_of None = []

-- where its script stands, by the functions of its program
abbrev pub stop_point_of : List Function → FrameState → script.StopPoint
stop_point_of fs frame =
    let lines = lines_of (function_at frame.function fs) in
    stop_point_at lines frame.ask frame.at (state_from lines frame.made)

-- The frame stands for the function of this number, with these arguments, at this depth, after these answers, of which the
-- newest stands first.
pub record FrameStandsFor (fs : List Function) (function : ℕ) (args : List Value) (depth : ℕ) (answers : List Answer) (frame : FrameState) : Type 0 where
  pub same_function : frame.function ≡ function
  pub same_depth : frame.depth ≡ depth
  pub stands : script.stop_point fs function args depth answers ≡ Some (stop_point_of fs frame)
