-- An attempt adopts what it asks: where the record at its place has the index of its next operation, that
-- record is of the operation that its script asks, field by field, and its answer is of the operation's kind.
use Rattle.std.specs.Prelude.{◌≡◌, ℕ, suc, true, List, ◌∷◌, Option, Some, None}
use Rattle.lb_base.specs.declared.value.Value.{Value}
use Rattle.lb_base.specs.declared.value.Outcome.{Outcome}
use Rattle.boki_types.specs.declared.body.Body.{Body}
use Rattle.boki_types.specs.declared.body.Body.TheVariants as b
use Rattle.boki_types.specs.declared.operation.Op.{Op}
use Rattle.boki_types.specs.declared.operation.Op.TheVariants as o
use Rattle.boki_types.specs.declared.operation.Ask.TheVariants as k
use Rattle.boki_types.specs.declared.operation.Answer.{Answer}
use Rattle.boki_types.specs.declared.operation.Answer.TheVariants as a
use Rattle.boki_types.specs.declared.plan.Setup.{Setup}
use Rattle.boki_types.specs.declared.program.Function.{Function}
use Rattle.boki_types.specs.Finding.{find}
use Rattle.boki_model.specs.Live.{Live}
use Rattle.boki_model.specs.Reads.{nth}
use Rattle.boki_model.specs.Bodies.{step_tag, step_of, child}
use Rattle.boki_model.specs.Modes.{result_of}
use Rattle.boki_model.specs.Writes.{Store, here_or_named, read_fenced}
use Rattle.boki_model.specs.Folds.{queues, front, commits, store_values, values_of_names}
use Rattle.boki_machine.specs.Attempt.{Attempt, Move, next_index}
use Rattle.boki_machine.specs.Decided.{join_answer}
use Rattle.boki_machine.specs.Step.{records_below, fenced_value, read_all, is_committed, next_write_name, adopts_operation, has_index, attempt_ask}
use Rattle.boki_machine.specs.Machine.{Machine, view}
use Rattle.exactly_once.specs.Induction.EventKeeps.{MachineHolds}
use Rattle.exactly_once.specs.FurtherLaws.Words.{IsAmong, attempts_of}
use Rattle.script_run.specs.Answering.{Takes}

-- A logged write is of the write that the attempt asks: it stands at the attempt's place, and what it writes, in
-- its record or under the name of the attempt's next write, is the value that is asked.
pub record IsWriteOf (store : Store) (t : Attempt) (place : ℕ) (key : List ℕ) (here : Option Value) (op : Op)
    : Type 0 where
  pub value : Value
  pub asks : op ≡ o.Write key value
  pub place_is : place ≡ t.place
  pub kept : here_or_named here (next_write_name t) store.named ≡ Some value

-- A spawn's record has the name of the function that is asked by its number.
pub record IsSpawnOf (fs : List Function) (ordinal : ℕ) (name : List ℕ) (args : List Value) (op : Op)
    : Type 0 where
  pub function : ℕ
  pub asks : op ≡ o.Spawn ordinal function args
  pub found : find name fs ≡ Some function

-- The child that a join's record waited for has its result among the records that the engine sees.
pub record IsJoinOf (view : List (Live Body)) (path : List ℕ) (ordinal : ℕ) (op : Op) : Type 0 where
  pub asks : op ≡ o.Join ordinal
  pub outcome : Outcome
  pub result : result_of (child path ordinal) view ≡ Some outcome

-- A commit's record is of the attempt's open transaction.
pub record IsCommitOf (t : Attempt) (begin : ℕ) (names : List (List ℕ)) (writes : List (List ℕ × Value)) (op : Op)
    : Type 0 where
  pub asks : op ≡ o.Commit names writes
  pub begin_is : t.transaction ≡ Some begin

-- the record is of this operation, field by field
abbrev pub RecordsOperation : List Function → Store → List (Live Body) → Attempt → Body → Op → Type 0
RecordsOperation fs store view t (b.Read p i key) op = op ≡ o.Read key
RecordsOperation fs store view t (b.ReadGroup p i keys) op = op ≡ o.ReadGroup keys
RecordsOperation fs store view t (b.Write p i place key here) op = IsWriteOf store t place key here op
RecordsOperation fs store view t (b.Spawn p i ordinal name args) op = IsSpawnOf fs ordinal name args op
RecordsOperation fs store view t (b.Join p i ordinal) op = IsJoinOf view p ordinal op
RecordsOperation fs store view t (b.Push p i queue value) op = op ≡ o.Push queue value
RecordsOperation fs store view t (b.Pop p i queue) op = op ≡ o.Pop queue
RecordsOperation fs store view t (b.TxnBegin p i names) op = op ≡ o.Begin names
RecordsOperation fs store view t (b.TxnCommit p i begin names writes) op = IsCommitOf t begin names writes op
RecordsOperation fs store view t _ op = ⊥

-- what the record at a seqnum answers, by what the engine sees; a join, where its child has a result
abbrev pub adopted_answer : Store → List (Live Body) → ℕ → Body → Option Answer
adopted_answer store view seq (b.Read p i key) = Some (a.Value (fenced_value (read_fenced key seq store view)))
adopted_answer store view seq (b.ReadGroup p i keys) =
    Some (a.Values (read_all (λ key. read_fenced key seq store view) keys))
adopted_answer store view seq (b.Write p i place key here) = Some a.Done
adopted_answer store view seq (b.Spawn p i ordinal name args) = Some (a.Spawned ordinal)
adopted_answer store view seq (b.Join p i ordinal) = join_answer (result_of (child p ordinal) view)
adopted_answer store view seq (b.Push p i queue value) = Some a.Done
adopted_answer store view seq (b.Pop p i queue) = Some (a.Value (front queue (queues (records_below seq view))))
adopted_answer store view seq (b.TxnBegin p i names) =
    Some (a.Values (values_of_names names (store_values (commits (records_below seq view)))))
adopted_answer store view seq (b.TxnCommit p i begin names writes) = Some (a.Committed (is_committed seq view))
adopted_answer store view seq _ = None

-- The record that an attempt adopts, of the operation that it asks.
pub record AdoptsAsked (fs : List Function) (store : Store) (view : List (Live Body)) (t : Attempt) (x : Live Body) (op : Op)
    : Type 0 where
  -- the attempt's path, and the index of its next operation
  pub step : step_of x.holds ≡ Some (t.path, next_index t.answers)
  pub is_of : RecordsOperation fs store view t x.holds op
  -- the record has an answer, of the operation's kind
  pub answer : Answer
  pub answers : adopted_answer store view x.seq x.holds ≡ Some answer
  pub takes : Takes (k.Op op) answer
  -- and where the machine's step gives one, it gives this
  pub given :
      (other : Move) (given : Answer)
      → (adopts_operation t store view x.seq x.holds other).attempt.answers ≡ given ∷ t.answers → given ≡ answer

-- An attempt of a machine that holds the invariant, which has adopted its Init: the record that its engine sees at
-- its place, where it has the index of the operation that is asked, is of that operation.
abbrev pub AdoptsItsAsk : Type 0
AdoptsItsAsk =
    (setup : Setup) (fs : List Function) (m : Machine) (t : Attempt) (place : ℕ) (x : Live Body) (op : Op)
    → MachineHolds setup fs m → IsAmong t (attempts_of m) → t.place ≡ suc place
    → nth (step_tag t.path) t.place (view m t.engine) ≡ Some x
    → has_index (next_index t.answers) (step_of x.holds) ≡ true
    → attempt_ask fs t ≡ Some (k.Op op) → AdoptsAsked fs m.store (view m t.engine) t x op
