-- Events that send and order nothing keep the invariant.
use Rattle.boki_types.specs.declared.event.Event.{Event}
use Rattle.boki_types.specs.declared.event.Event.TheVariants as v
use Rattle.boki_types.specs.declared.plan.Setup.{Setup}
use Rattle.boki_types.specs.declared.program.Function.{Function}
use Rattle.std.specs.Prelude.{Bool, true, false, IsTrue, List}
use Rattle.boki_machine.specs.Machine.{Machine, apply_event}
use Rattle.exactly_once.specs.Induction.Invariant.{InvariantHolds}
use Rattle.exactly_once.specs.Induction.OpeningHolds.{world_of}

-- an attempt starts, is killed or forgets its record; a sweep; reads, auxiliary data and seeds
abbrev pub sends_nothing : Event → Bool
sends_nothing (v.Start n path engine) = true
sends_nothing (v.Kill n) = true
sends_nothing (v.Lose n) = true
sends_nothing (v.Sweep engine) = true
sends_nothing (v.Next engine tag from) = true
sends_nothing (v.Prev engine tag upto) = true
sends_nothing (v.Tail engine tag) = true
sends_nothing (v.Settled engine shard local) = true
sends_nothing (v.SetAux engine seq text) = true
sends_nothing (v.GetAux engine seq) = true
sends_nothing (v.Seed n) = true
sends_nothing _ = false

abbrev pub QuietEventsKeepInvariant : Type 0
QuietEventsKeepInvariant =
    (setup : Setup) (fs : List Function) (m : Machine) (event : Event) → IsTrue (sends_nothing event) → InvariantHolds setup fs (world_of m)
    → InvariantHolds setup fs (world_of (apply_event setup fs m event).machine)
