-- Where a line leads a frame, beside the line's flow.
use Rattle.std.specs.Prelude.{◌≡◌, ◌<◌, ℕ, ◌+◌, List, drop, Result, Ok, Err}
use Rattle.lb_base.specs.declared.value.Outcome.TheVariants.{Trap}
use Rattle.boki_types.specs.declared.program.Stmt.{Stmt}
use Rattle.boki_types.specs.declared.operation.Ask.{Ask}
use Rattle.boki_types.specs.declared.operation.Ask.TheVariants as k
use Rattle.boki_model.specs.Script as script
use Rattle.script_run.specs.declared.execute.Flow.{Flow}
use Rattle.script_run.specs.declared.execute.Flow.TheVariants as f
use Rattle.script_run.specs.declared.skip.Skipped.{Skipped}
use Rattle.script_run.specs.declared.skip.Skipped.TheVariants as p
use Rattle.script_run.specs.declared.fault.EvalFault.{EvalFault}
use Rattle.script_run.specs.declared.fault.EvalFault.TheVariants as halt
use Rattle.script_run.specs.Standing.{stop_point_at}
use Rattle.script_run.specs.Asking.{HasSmallOrdinal}

-- the flow of the line of this number, with what is asked and the state behind it
abbrev pub flow_of : List Stmt → ℕ → Ask → script.State → Flow → script.Flow
flow_of lines at ask t f.Next = script.Next t
flow_of lines at ask t f.Skip = script.Skip t
flow_of lines at ask t (f.Enter loop) = script.Enter (drop (loop + 1) lines) t
flow_of lines at ask t f.Stop = script.Stop (stop_point_at lines ask at t)

-- what a line gives: its flow, or its trap, which ends the script. Want of memory says nothing
abbrev pub HasFlow : script.Flow → List Stmt → ℕ → Ask → script.State → Result Flow EvalFault → Type 0
HasFlow flow lines at ask t (Ok leads) = flow ≡ flow_of lines at ask t leads
HasFlow flow lines at ask t (Err (halt.Trap why)) = flow ≡ script.Stop (script.AtEnd (Trap why))
HasFlow flow lines at ask t (Err halt.Memory) = Unit {0}

abbrev pub AsksSmallOrdinal : Ask → Type 0
AsksSmallOrdinal (k.Op op) = HasSmallOrdinal op
AsksSmallOrdinal (k.Done outcome) = Unit {0}

-- a loop that is entered is one of so many lines
abbrev pub Enters : ℕ → Flow → Type 0
Enters count (f.Enter loop) = loop < count
Enters count _ = Unit {0}

-- what a skipped line is
abbrev pub skipped_of : Skipped → script.Skipped
skipped_of p.BlockEnds = script.BlockEnds
skipped_of p.ElseBegins = script.ElseBegins
skipped_of (p.SkipsOn depth) = script.SkipsOn depth
