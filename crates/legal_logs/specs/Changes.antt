-- What the script decides of a record can't be changed: where a log is legal, and in one of its records a name, a value, an
-- ordinal, an argument or the outcome is another, that record is the first that isn't legal.
use Rattle.std.specs.Prelude.{◌≡◌, ℕ, suc, length, ◌==◌, ◌&&◌, ◌++◌, IsTrue, IsFalse, Bool, true, false, List, ◌∷◌, Option, Some, None, bytes_eq, Ok, Err}
use Rattle.lb_base.specs.declared.value.Value.{Value}
use Rattle.lb_base.specs.declared.value.Mode.{Mode}
use Rattle.boki_types.specs.declared.body.Body.{Body}
use Rattle.boki_types.specs.declared.body.Body.TheVariants as b
use Rattle.boki_types.specs.declared.program.Function.{Function}
use Rattle.boki_model.specs.Live.{LogRecord, Live, live, meets_condition}
use Rattle.boki_model.specs.Bodies.{step_of}
use Rattle.boki_model.specs.Values.{same_value}
use Rattle.boki_machine.specs.Ideal.{Ideal}
use Rattle.legal_logs.specs.Same.{same_outcome, same_names, same_values, same_writes}
use Rattle.legal_logs.specs.Legal.{legal}

-- the record of an operation, or of an end: the script decides what it says
abbrev pub is_decided : Body → Bool
is_decided (b.Read p i key) = true
is_decided (b.Write p i place key here) = true
is_decided (b.Spawn p i ordinal name args) = true
is_decided (b.Join p i ordinal) = true
is_decided (b.Push p i queue value) = true
is_decided (b.Pop p i queue) = true
is_decided (b.TxnBegin p i names) = true
is_decided (b.TxnCommit p i begin names writes) = true
is_decided (b.ReadGroup p i keys) = true
is_decided (b.Finish p i outcome) = true
is_decided _ = false

-- two values of a write, each of which a record may leave out
abbrev pub may_agree : Option Value → Option Value → Bool
may_agree None there = true
may_agree (Some v) None = true
may_agree (Some v) (Some w) = same_value v w

-- the records say the same, but for their paths, their indexes and their places
abbrev pub says_the_same : Body → Body → Bool
says_the_same (b.Read p i key) (b.Read q j name) = bytes_eq key name
says_the_same (b.Write p i place key here) (b.Write q j other name there) = bytes_eq key name && may_agree here there
says_the_same (b.Spawn p i ordinal name args) (b.Spawn q j n other values) = (ordinal == n) && bytes_eq name other && same_values args values
says_the_same (b.Join p i ordinal) (b.Join q j n) = ordinal == n
says_the_same (b.Push p i queue value) (b.Push q j name v) = bytes_eq queue name && same_value value v
says_the_same (b.Pop p i queue) (b.Pop q j name) = bytes_eq queue name
says_the_same (b.TxnBegin p i names) (b.TxnBegin q j others) = same_names names others
says_the_same (b.TxnCommit p i begin names writes) (b.TxnCommit q j other others ws) =
    (begin == other) && same_names names others && same_writes writes ws
says_the_same (b.ReadGroup p i keys) (b.ReadGroup q j others) = same_names keys others
says_the_same (b.Finish p i outcome) (b.Finish q j other) = same_outcome outcome other
says_the_same _ _ = false

abbrev pub holds_instead : Live Body → Body → Live Body
holds_instead x body = record x { holds = body }

-- the record holds something else of the same path and index, at the same place of the log
abbrev pub ChangesAreRefused : Type 0
ChangesAreRefused =
    (fs : List Function) (first : Mode) (objects : List (List ℕ × Value)) (newer older : List (Live Body)) (x : Live Body) (body : Body) (state : Ideal)
    → legal fs first objects (newer ++ x ∷ older) ≡ Ok state
    → IsTrue (is_decided x.holds) → IsTrue (is_decided body) → step_of body ≡ step_of x.holds → IsFalse (says_the_same x.holds body)
    → legal fs first objects (newer ++ holds_instead x body ∷ older) ≡ Err x.seq

-- And so it is in the whole list, with its dead records: which records are live depends on tags and conditions alone, and those
-- of the changed record stay.
abbrev pub with_body : LogRecord Body → Body → LogRecord Body
with_body r body = record r { holds = body }

abbrev pub ChangedEntriesAreRefused : Type 0
ChangedEntriesAreRefused =
    (fs : List Function) (first : Mode) (objects : List (List ℕ × Value)) (newer older : List (LogRecord Body)) (r : LogRecord Body) (body : Body) (state : Ideal)
    → legal fs first objects (live (newer ++ r ∷ older)) ≡ Ok state → IsTrue (meets_condition r.condition (live older))
    → IsTrue (is_decided r.holds) → IsTrue (is_decided body) → step_of body ≡ step_of r.holds → IsFalse (says_the_same r.holds body)
    → legal fs first objects (live (newer ++ with_body r body ∷ older)) ≡ Err (suc (length older))
