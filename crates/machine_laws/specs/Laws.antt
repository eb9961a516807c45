-- Laws of any machine that holds the invariant.
use Rattle.std.specs.Prelude.{List}
use Rattle.boki_types.specs.declared.plan.Setup.{Setup}
use Rattle.boki_types.specs.declared.program.Function.{Function}
use Rattle.boki_machine.specs.Machine.{Machine}
use Rattle.exactly_once.specs.Induction.EventKeeps.{MachineHolds}

abbrev pub WhereHolding : (Setup → List Function → Machine → Type 0) → Type 0
WhereHolding Law = (setup : Setup) (fs : List Function) (m : Machine) → MachineHolds setup fs m → Law setup fs m
