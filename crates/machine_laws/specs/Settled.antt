-- Where the next write of an attempt has the name of a live logged write, the attempt is behind that write.
use Rattle.std.specs.Prelude.{◌≡◌, ◌<◌, true, List}
use Rattle.boki_types.specs.declared.body.Body.{Body}
use Rattle.boki_types.specs.declared.plan.Setup.{Setup}
use Rattle.boki_types.specs.declared.program.Function.{Function}
use Rattle.boki_model.specs.Live.{Live}
use Rattle.boki_model.specs.Writes.{is_settled}
use Rattle.boki_machine.specs.Attempt.{Attempt}
use Rattle.boki_machine.specs.Step.{next_write_name}
use Rattle.boki_machine.specs.Machine.{Machine, live_records}
use Rattle.exactly_once.specs.Induction.EventKeeps.{MachineHolds}
use Rattle.exactly_once.specs.FurtherLaws.StoreBound.{WritesName}
use Rattle.exactly_once.specs.FurtherLaws.Words.{IsAmong, attempts_of}

pub record IsBehind (m : Machine) (t : Attempt) : Type 0 where
  -- the live write of the name that the attempt writes next is above its cursor
  pub above : (x : Live Body) → WritesName (next_write_name t) (live_records m) x → t.cursor < x.seq
  -- so where that name is settled, below the store's floor, the cursor is below the floor
  pub below : is_settled (next_write_name t) m.store.floor (live_records m) ≡ true → t.cursor < m.store.floor

-- Each attempt, whatever it asks and wherever it is.
abbrev pub SettledIsBelow : Type 0
SettledIsBelow =
    (setup : Setup) (fs : List Function) (m : Machine) (t : Attempt)
    → MachineHolds setup fs m → IsAmong t (attempts_of m) → IsBehind m t
