-- Invocations of mode R and of mode W never run beside each other, and a floor passes none that still runs.
use Rattle.std.specs.Prelude.{◌≡◌, ℕ, ◌==◌, ◌<◌, IsTrue, if◌then◌else◌, List, [], ◌∷◌, Option, Some, None, is_some}
use Rattle.lb_base.specs.declared.value.Mode.{Mode}
use Rattle.lb_base.specs.declared.value.Mode.TheVariants.{R, W}
use Rattle.boki_types.specs.declared.body.Body.{Body}
use Rattle.boki_types.specs.declared.body.Body.TheVariants as b
use Rattle.boki_model.specs.Live.{LogRecord, Live, live}
use Rattle.boki_model.specs.Modes.{mode_after, result_of}
use Rattle.boki_model.specs.Floor.{floor}
use Rattle.boki_machine.specs.Step.{records_below}

-- what the live record at a seqnum holds
abbrev pub body_at : {A : Type 0} → ℕ → List (Live A) → Option A
body_at seq [] = None
body_at seq (x ∷ xs) = if seq == x.seq then Some x.holds else body_at seq xs

-- the live record at the seqnum is the Init of the path, and the invocation is of this mode
pub record BeganInMode (first : Mode) (records : List (Live Body)) (path : List ℕ) (seq : ℕ) (mode : Mode) : Type 0 where
  pub init : body_at seq records ≡ Some (b.Init path)
  pub mode_is : mode_after first (records_below seq records) ≡ mode

-- the path has its Finish among the records
abbrev pub IsEnded : List ℕ → List (Live Body) → Type 0
IsEnded path records = IsTrue (is_some (result_of path records))

-- one of the modes is R, and the other W
abbrev pub AreExclusive : Mode → Mode → Type 0
AreExclusive R W = Unit {0}
AreExclusive W R = Unit {0}
AreExclusive _ _ = ⊥

-- Of two invocations, one of mode R and one of mode W, the one whose Init comes first has its
-- Finish below the other's Init.
abbrev pub NeverBeside : Mode → List (Live Body) → Type 0
NeverBeside first records =
    (p q : List ℕ) (i j : ℕ) (m n : Mode)
    → BeganInMode first records p i m → BeganInMode first records q j n → AreExclusive m n → i < j
    → IsEnded p (records_below j records)

-- So it is whatever the ordered list, and the mode that it begins with.
abbrev pub ModesExclude : Type 0
ModesExclude = (first : Mode) (log : List (LogRecord Body)) → NeverBeside first (live log)

-- Whatever the ordered list: each invocation with its live Init below the floor has its Finish in the list.
abbrev pub FloorsPass : Type 0
FloorsPass =
    (log : List (LogRecord Body)) (p : List ℕ) (i : ℕ) → body_at i (live log) ≡ Some (b.Init p) → i < floor (live log) → IsEnded p (live log)
