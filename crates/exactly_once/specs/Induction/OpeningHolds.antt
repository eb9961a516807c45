-- The invariant of a machine: it holds at the opening, and where it holds the reports agree.
use Rattle.std.specs.Prelude.{ℕ, List, map}
use Rattle.lb_base.specs.declared.value.Value.{Value}
use Rattle.boki_types.specs.declared.plan.Setup.{Setup}
use Rattle.boki_types.specs.declared.program.Function.{Function}
use Rattle.boki_machine.specs.Machine.{Machine, initial_machine, log}
use Rattle.exactly_once.specs.Induction.Invariant.{World, InvariantHolds}
use Rattle.exactly_once.specs.Induction.ReportsAgree.{IsReported}
use Rattle.exactly_once.specs.FurtherLaws.Words.{all_records}

-- what the invariant sees of a machine
abbrev pub world_of : Machine → World
world_of m = record {
  log = log m;
  sent = all_records m.shards;
  store = m.store;
  attempts = map (λ x. x.attempt) m.attempts;
  positions = m.positions;
}

abbrev pub OpeningHolds : Type 0
OpeningHolds = (setup : Setup) (fs : List Function) (objects : List (List ℕ × Value)) → InvariantHolds setup fs (world_of (initial_machine setup objects))

-- so each event that keeps the invariant keeps the machine exact
abbrev pub HoldingIsReported : Type 0
HoldingIsReported = (setup : Setup) (fs : List Function) (m : Machine) → InvariantHolds setup fs (world_of m) → IsReported fs m
