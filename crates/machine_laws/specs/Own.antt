-- Each record that was ever sent is as the runtime sends it: it carries the tags of what it says, and its paths are
-- in range.
use Rattle.std.specs.Prelude.{ℕ, List}
use Rattle.std.specs.List.{AllByRecursion}
use Rattle.boki_types.specs.declared.plan.Setup.{Setup}
use Rattle.boki_types.specs.declared.program.Function.{Function}
use Rattle.boki_machine.specs.Machine.{Machine, log, live_records, view}
use Rattle.exactly_once.specs.Induction.EventKeeps.{MachineHolds}
use Rattle.exactly_once.specs.FurtherLaws.Words.{all_records}
use Rattle.exactly_once.specs.FurtherLaws.StepRecords.{IsWellFormed, IsWellFormedLive}

pub record AreWellFormed (m : Machine) : Type 0 where
  pub sent : AllByRecursion IsWellFormed (all_records m.shards)
  pub ordered : AllByRecursion IsWellFormed (log m)
  pub whole : AllByRecursion IsWellFormedLive (live_records m)
  pub seen : (engine : ℕ) → AllByRecursion IsWellFormedLive (view m engine)

abbrev pub HoldingAreWellFormed : Type 0
HoldingAreWellFormed =
    (setup : Setup) (fs : List Function) (m : Machine) → MachineHolds setup fs m → AreWellFormed m
