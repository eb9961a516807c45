-- Attempts under their numbers, and the floor, in any machine that holds the invariant.
use Rattle.std.specs.Prelude.{◌≡◌, ℕ, ◌≤◌, List, length, Some}
use Rattle.boki_types.specs.declared.plan.Setup.{Setup}
use Rattle.boki_types.specs.declared.program.Function.{Function}
use Rattle.boki_machine.specs.Attempt.{Attempt}
use Rattle.boki_machine.specs.Machine.{Machine, log, attempt_at}
use Rattle.exactly_once.specs.Induction.EventKeeps.{MachineHolds}
use Rattle.exactly_once.specs.FurtherLaws.Words.{IsAmong, attempts_of}

-- the attempt that is found under a number is one of the machine's
abbrev pub FoundAreAmong : Type 0
FoundAreAmong =
    (m : Machine) (n : ℕ) (a : Attempt) → attempt_at n m.attempts ≡ Some a → IsAmong a (attempts_of m)

-- the store's floor is at most the newest seqnum
abbrev pub FloorIsWithin : Type 0
FloorIsWithin =
    (setup : Setup) (fs : List Function) (m : Machine) → MachineHolds setup fs m
    → m.store.floor ≤ length (log m)
