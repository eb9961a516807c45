-- The step records of an invocation that hasn't ended lie at or above the store's floor, so the store still has the
-- versions that stand at them.
use Rattle.std.specs.Prelude.{◌≡◌, ℕ, ◌≤◌, List, Some, None}
use Rattle.boki_types.specs.declared.body.Body.{Body}
use Rattle.boki_types.specs.declared.plan.Setup.{Setup}
use Rattle.boki_types.specs.declared.program.Function.{Function}
use Rattle.boki_model.specs.Live.{Live}
use Rattle.boki_model.specs.Bodies.{step_of}
use Rattle.boki_model.specs.Modes.{result_of}
use Rattle.boki_machine.specs.Machine.{Machine, live_records}
use Rattle.exactly_once.specs.Induction.EventKeeps.{MachineHolds}
use Rattle.exactly_once.specs.FurtherLaws.Words.{IsAmong}

abbrev pub OpenAreAbove : Type 0
OpenAreAbove =
    (setup : Setup) (fs : List Function) (m : Machine) (path : List ℕ) (x : Live Body) (index : ℕ)
    → MachineHolds setup fs m → result_of path (live_records m) ≡ None
    → IsAmong x (live_records m) → step_of x.holds ≡ Some (path, index) → m.store.floor ≤ x.seq
