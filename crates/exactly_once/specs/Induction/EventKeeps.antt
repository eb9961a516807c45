-- The invariant of a machine with its shards, which every event keeps.
use Rattle.std.specs.Prelude.{◌≤◌, IsTrue, List}
use Rattle.std.specs.List.{AllByRecursion}
use Rattle.boki_types.specs.declared.event.Event.{Event}
use Rattle.boki_types.specs.declared.plan.Setup.{Setup}
use Rattle.boki_types.specs.declared.program.Function.{Function}
use Rattle.boki_model.specs.Order.{last_vector, progress}
use Rattle.boki_model.specs.OrderLaws.{AreAtMost, CountsGrow, ShardsHave}
use Rattle.boki_model.specs.Plans.{is_event}
use Rattle.boki_machine.specs.Machine.{Machine, apply_event}
use Rattle.exactly_once.specs.Induction.Invariant.{InvariantHolds}
use Rattle.exactly_once.specs.Induction.OpeningHolds.{world_of}

-- The invariant of a machine with its shards: beside the invariant of what it orders, vectors grow, the shards have what the
-- last vector counts, and every replica has it; and attempts run on engines, which are numbered from 1.
pub record MachineHolds (setup : Setup) (fs : List Function) (m : Machine) : Type 0 where
  pub holds : InvariantHolds setup fs (world_of m)
  pub grow : CountsGrow m.vectors
  pub have : ShardsHave m.shards (last_vector m.vectors)
  pub replicas : AreAtMost (last_vector m.vectors) (progress m.shards m.counts)
  pub engines : AllByRecursion (λ x. 1 ≤ x.attempt.engine) m.attempts

-- every event that a plan can have keeps it
abbrev pub EventsKeepInvariant : Type 0
EventsKeepInvariant =
    (setup : Setup) (fs : List Function) (m : Machine) (event : Event) → IsTrue (is_event setup fs event) → MachineHolds setup fs m
    → MachineHolds setup fs (apply_event setup fs m event).machine
