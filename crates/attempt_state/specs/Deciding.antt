-- Which case of the step table it is, as far as the attempt alone tells.
use Rattle.std.specs.Prelude.{Bool, true, false, Option, Some, None}
use Rattle.lb_base.specs.declared.value.Mode.{Mode}
use Rattle.lb_base.specs.declared.value.Mode.TheVariants.{R, W}
use Rattle.boki_types.specs.declared.operation.Ask.{Ask}
use Rattle.boki_types.specs.declared.operation.Ask.TheVariants as k
use Rattle.script_run.specs.Frames.{FrameState}

abbrev pub is_operation : Ask → Bool
is_operation (k.Op op) = true
is_operation (k.Done outcome) = false

-- there is a script, and it asks an operation
abbrev pub asks_operation : Option FrameState → Bool
asks_operation None = false
asks_operation (Some frame) = is_operation frame.ask

abbrev pub reads_freely : Mode → Bool
reads_freely R = true
reads_freely _ = false

abbrev pub writes_freely : Mode → Bool → Bool
writes_freely W false = true
writes_freely _ _ = false
