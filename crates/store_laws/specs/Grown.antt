-- An object store stands for the machine's store while the list of records grows: once an event has done to it what
-- it does to the machine's store, it stands for that with the records behind the event.
use Rattle.std.specs.Prelude.{List}
use Rattle.boki_types.specs.declared.event.Event.{Event}
use Rattle.boki_types.specs.declared.plan.Setup.{Setup}
use Rattle.boki_types.specs.declared.program.Function.{Function}
use Rattle.boki_machine.specs.Machine.{Machine, live_records, cut, apply_event}
use Rattle.exactly_once.specs.Induction.EventKeeps.{MachineHolds}
use Rattle.obj_store.specs.Kept.{StoreState}
use Rattle.obj_store.specs.StandsFor.{StandsFor}

-- a cut leaves what the store stands for
abbrev pub CutsLeaveStores : Type 0
CutsLeaveStores =
    (setup : Setup) (fs : List Function) (m : Machine) (kept : StoreState) → MachineHolds setup fs m
    → StandsFor kept m.store (live_records m) → StandsFor kept (cut m).store (live_records (cut m))

-- and so does every event, but for its own change of the store
abbrev pub EventsLeaveStores : Type 0
EventsLeaveStores =
    (setup : Setup) (fs : List Function) (m : Machine) (event : Event) (kept : StoreState) → MachineHolds setup fs m
    → StandsFor kept (apply_event setup fs m event).machine.store (live_records m)
    → StandsFor kept (apply_event setup fs m event).machine.store (live_records (apply_event setup fs m event).machine)
