-- The machine whose book and store parts keep, and what an event does to them.
use Rattle.std.specs.Prelude.{◌≡◌, ℕ, ◌-◌, List, length, IsTrue}
use Rattle.std.specs.List.{AllByRecursion}
use Rattle.boki_types.specs.declared.event.Event.{Event}
use Rattle.boki_types.specs.declared.line.Line.{Line}
use Rattle.boki_types.specs.declared.plan.Setup.{Setup}
use Rattle.boki_types.specs.declared.program.Function.{Function}
use Rattle.boki_model.specs.Plans.{is_event}
use Rattle.boki_machine.specs.Machine.{Machine, log, apply_event, catch_up_all}
use Rattle.book_api.specs.Books.{BookState}
use Rattle.step_log.specs.Sound.{bodies}
use Rattle.step_laws.specs.Kept.{MachineIsKept, IsTextEvent}
use Rattle.flow_parts.specs.declared.parts.Parts.{Parts}
use Rattle.flow_parts.specs.Parts.{PartsStandFor}

-- the book is the machine's: its records say what the machine's hold
pub record IsBookOf (m : Machine) (book : BookState) : Type 0 where
  pub shards : m.shards ≡ bodies book
  pub counts : m.counts ≡ book.counts
  pub vectors : m.vectors ≡ book.vectors
  pub positions : m.positions ≡ book.positions
  pub aux : m.aux ≡ book.aux

-- each shard has as many replicas as the setup says; the first one has no count
pub record HasReplicas (setup : Setup) (counts : List (List ℕ)) : Type 0 where
  pub shards : length counts ≡ setup.shards
  pub each : AllByRecursion (λ copied. length copied ≡ setup.replicas - 1) counts

-- The parts are those of a machine that a cluster keeps.
pub record PartsAreOf (setup : Setup) (fs : List Function) (m : Machine) (parts : Parts) : Type 0 where
  pub book : IsBookOf m parts.book
  pub replicas : HasReplicas setup parts.book.counts
  pub stand : PartsStandFor setup m.store parts
  pub kept : MachineIsKept setup fs m

-- The event is one that the plan of such a machine can have: what each event needs.
pub record CanDo (fs : List Function) (event : Event) (parts : Parts) : Type 0 where
  pub setup : Setup
  pub machine : Machine
  pub valid : IsTrue (is_event setup fs event)
  pub are : PartsAreOf setup fs machine parts

-- whatever the plan's functions are
pub record CanDoAny (event : Event) (parts : Parts) : Type 0 where
  pub functions : List Function
  pub can : CanDo functions event parts

-- An event was done: its line was answered, and the parts are those of the machine behind it.
pub record IsEventDone
    (setup : Setup) (fs : List Function) (event : Event) (m : Machine) (new : Parts) (line : Line) : Type 0 where
  pub line_is : line ≡ (apply_event setup fs m event).line
  pub are : PartsAreOf setup fs (apply_event setup fs m event).machine new
  pub text : IsTextEvent setup fs event

-- for every machine whose parts they were
abbrev pub DoesEvent : List Function → Event → Parts → Parts → Line → Type 0
DoesEvent fs event old new line =
    (setup : Setup) (m : Machine) → IsTrue (is_event setup fs event) → PartsAreOf setup fs m old
    → IsEventDone setup fs event m new line

abbrev pub DoesEventAny : Event → Parts → Parts → Line → Type 0
DoesEventAny event old new line = (fs : List Function) → DoesEvent fs event old new line

-- they are some machine's
pub record AreParts (parts : Parts) : Type 0 where
  pub setup : Setup
  pub functions : List Function
  pub machine : Machine
  pub are : PartsAreOf setup functions machine parts

-- each engine was caught up, and this is the length of the log
pub record CatchesAll (old new : Parts) (n : ℕ) : Type 0 where
  pub length_is : (setup : Setup) (fs : List Function) (m : Machine) → PartsAreOf setup fs m old → n ≡ length (log m)
  pub are : (setup : Setup) (fs : List Function) (m : Machine) → PartsAreOf setup fs m old → PartsAreOf setup fs (catch_up_all m) new
