-- When a store is kept.
use Rattle.std.specs.Prelude.{List}
use Rattle.boki_types.specs.declared.body.Body.{Body}
use Rattle.boki_types.specs.declared.plan.Setup.{Setup}
use Rattle.boki_types.specs.declared.program.Function.{Function}
use Rattle.boki_model.specs.Live.{Live}
use Rattle.boki_model.specs.Writes.{Store}
use Rattle.boki_machine.specs.Machine.{Machine, live_records}
use Rattle.exactly_once.specs.Induction.EventKeeps.{MachineHolds}
use Rattle.obj_store.specs.Kept.{StoreState}
use Rattle.obj_store.specs.StandsFor.{StandsFor, IsUnchanged}
use Rattle.hm_read.specs.Kept.{IsKept}

-- a store that is unchanged stands for what it stood for
abbrev pub UnchangedStands : Type 0
UnchangedStands =
    (old new : StoreState) (m : Store) (records : List (Live Body)) → IsUnchanged old new
    → StandsFor old m records → StandsFor new m records

-- and is kept
abbrev pub UnchangedIsKept : Type 0
UnchangedIsKept =
    (old new : StoreState) (m : Store) (records : List (Live Body)) → IsUnchanged old new
    → IsKept old m records → IsKept new m records

-- what stands for the store of a machine that holds the invariant is kept
abbrev pub HoldingIsKept : Type 0
HoldingIsKept =
    (setup : Setup) (fs : List Function) (m : Machine) (kept : StoreState) → MachineHolds setup fs m
    → StandsFor kept m.store (live_records m) → IsKept kept m.store (live_records m)
