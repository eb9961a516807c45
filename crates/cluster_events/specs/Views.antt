-- An engine's view of switches was brought to the engine's position, and nothing else was changed.
use Rattle.std.specs.Prelude.{◌≡◌, ℕ, ◌-◌, List, slice_index_or}
use Rattle.boki_types.specs.declared.plan.Setup.{Setup}
use Rattle.boki_types.specs.declared.program.Function.{Function}
use Rattle.boki_machine.specs.Machine.{Machine}
use Rattle.hm_switch.specs.SwitchStates.{SwitchState, IsCurrent}
use Rattle.flow_parts.specs.declared.parts.Parts.{Parts}
use Rattle.cluster_events.specs.Machines.{PartsAreOf}

pub record IsAdvanced (engine : ℕ) (old new : Parts) : Type 0 where
  pub book : new.book ≡ old.book
  pub store : new.store ≡ old.store
  pub are : (setup : Setup) (fs : List Function) (m : Machine) → PartsAreOf setup fs m old → PartsAreOf setup fs m new
  pub current : (d : SwitchState) → IsCurrent new.book engine (slice_index_or new.switches.items (engine - 1) d)
