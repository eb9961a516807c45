-- The parts of an engine that was restarted.
use Rattle.std.specs.Prelude.{ℕ, List, IsTrue}
use Rattle.boki_types.specs.declared.event.Event.TheVariants as event
use Rattle.boki_types.specs.declared.plan.Setup.{Setup}
use Rattle.boki_types.specs.declared.program.Function.{Function}
use Rattle.boki_model.specs.Plans.{is_event}
use Rattle.boki_machine.specs.Machine.{Machine, restart_engine}
use Rattle.flow_parts.specs.declared.parts.Parts.{Parts}
use Rattle.cluster_events.specs.Machines.{PartsAreOf}

abbrev pub RestartsParts : ℕ → Parts → Parts → Type 0
RestartsParts engine old new =
    (setup : Setup) (fs : List Function) (m : Machine) → IsTrue (is_event setup fs (event.Restart engine)) → PartsAreOf setup fs m old
    → PartsAreOf setup fs (restart_engine engine m) new
