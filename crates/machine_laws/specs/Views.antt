-- What an engine sees of the whole list, up to its position, is enough for the reads of its attempts.
use Rattle.std.specs.Prelude.{◌≡◌, ℕ, suc, ◌<◌, ◌≤◌, List, Some}
use Rattle.boki_types.specs.declared.body.Body.{Body}
use Rattle.boki_types.specs.declared.line.Life.TheVariants.{Running}
use Rattle.boki_types.specs.declared.plan.Setup.{Setup}
use Rattle.boki_types.specs.declared.program.Function.{Function}
use Rattle.boki_model.specs.Live.{Live}
use Rattle.boki_model.specs.Reads.{nth}
use Rattle.boki_model.specs.Writes.{Store, read_free, read_fenced}
use Rattle.boki_machine.specs.Attempt.{Attempt}
use Rattle.boki_machine.specs.Machine.{Machine, live_records, position, view}
use Rattle.exactly_once.specs.Induction.EventKeeps.{MachineHolds}
use Rattle.exactly_once.specs.FurtherLaws.Words.{IsAmong, attempts_of}

-- A read of an object, at a position that the engine's covers, answers what it would over the whole list; and what
-- stands at a place has a seqnum from 1 up to the engine's position.
pub record ReadsTheWhole (m : Machine) (engine : ℕ) : Type 0 where
  pub free :
      (store : Store) (key : List ℕ) (cursor : ℕ) → cursor ≤ position m engine
      → read_free key cursor store (view m engine) ≡ read_free key cursor store (live_records m)
  pub fenced :
      (store : Store) (key : List ℕ) (seq : ℕ) → seq ≤ suc (position m engine)
      → read_fenced key seq store (view m engine) ≡ read_fenced key seq store (live_records m)
  pub found :
      (tag place : ℕ) (x : Live Body) → nth tag place (view m engine) ≡ Some x
      → (0 < x.seq) × (x.seq ≤ position m engine)

abbrev pub ViewsReadTheWhole : Type 0
ViewsReadTheWhole = (m : Machine) (engine : ℕ) → ReadsTheWhole m engine

-- an attempt that runs has its cursor up to its engine's position
abbrev pub RunningSeeTheirCursor : Type 0
RunningSeeTheirCursor =
    (setup : Setup) (fs : List Function) (m : Machine) (t : Attempt)
    → MachineHolds setup fs m → IsAmong t (attempts_of m) → t.life ≡ Running → t.cursor ≤ position m t.engine
