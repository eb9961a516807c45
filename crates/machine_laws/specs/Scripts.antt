-- Decided answers are the script's. `first_decided_answers` is a fold of the live records: it takes each step record's answer without
-- asking what the script asks there, or which index the record has. In any machine both are as they should be.
use Rattle.std.specs.Prelude.{◌≡◌, ℕ, suc, ◌≤◌, true, List, [], ◌∷◌, length, Option, Some}
use Rattle.lb_base.specs.declared.value.Outcome.{Outcome}
use Rattle.lb_base.specs.declared.value.Value.{Value}
use Rattle.boki_types.specs.declared.body.Body.{Body}
use Rattle.boki_types.specs.declared.body.Body.TheVariants as b
use Rattle.boki_types.specs.declared.log.Call.{Call}
use Rattle.boki_types.specs.declared.operation.Op.{Op}
use Rattle.boki_types.specs.declared.operation.Op.TheVariants as o
use Rattle.boki_types.specs.declared.operation.Ask.{Ask}
use Rattle.boki_types.specs.declared.operation.Ask.TheVariants as k
use Rattle.boki_types.specs.declared.operation.Answer.{Answer}
use Rattle.boki_types.specs.declared.plan.Setup.{Setup}
use Rattle.boki_types.specs.declared.program.Function.{Function}
use Rattle.boki_types.specs.Finding.{find}
use Rattle.boki_model.specs.Live.{Live}
use Rattle.boki_model.specs.Bodies.{step_of}
use Rattle.boki_model.specs.Writes.{Store, here_or_named}
use Rattle.boki_machine.specs.Attempt.{call_of}
use Rattle.boki_machine.specs.Decided.{InvocationState, invocation_state, asked_at, own_answer, function_of, first_decided_answers}
use Rattle.boki_machine.specs.Machine.{Machine, live_records}
use Rattle.boki_machine.specs.Step.{records_below}
use Rattle.exactly_once.specs.FurtherLaws.Words.{IsAmong, values_only}
use Rattle.script_run.specs.Answering.{IsOfKind}

-- An answer of what the script asks after these answers.
pub record AnswersAsk (fs : List Function) (path : List ℕ) (state : InvocationState) (before : List Answer) (answer : Answer)
    : Type 0 where
  pub op : Op
  pub asked : asked_at fs path state before ≡ Some (k.Op op)
  pub of_kind : IsOfKind op answer

-- each of these answers, the newest of which stands first, after those before it
abbrev pub AnswerInOrder : List Function → List ℕ → InvocationState → List Answer → Type 0
AnswerInOrder fs path state [] = Unit {0}
AnswerInOrder fs path state (x ∷ before) = AnswersAsk fs path state before x × AnswerInOrder fs path state before

-- A logged write has the value that is asked, in its record or under its name.
pub record RecordsWrite (store : Store) (path : List ℕ) (place : ℕ) (key : List ℕ) (here : Option Value) (ask : Option Ask)
    : Type 0 where
  pub value : Value
  pub asks : ask ≡ Some (k.Op (o.Write key value))
  pub kept : here_or_named here (record { path = path; place = place }) store.named ≡ Some value

-- A spawn has the name of the function that is asked by its number.
pub record RecordsSpawn (fs : List Function) (ordinal : ℕ) (name : List ℕ) (args : List Value) (ask : Option Ask) : Type 0 where
  pub function : ℕ
  pub asks : ask ≡ Some (k.Op (o.Spawn ordinal function args))
  pub found : find name fs ≡ Some function

-- What a step record says is what the script asks there; an Init comes before the script asks anything.
abbrev pub RecordsAsk : List Function → Store → Option Ask → Body → Type 0
RecordsAsk fs store ask (b.Init p) = Unit {0}
RecordsAsk fs store ask (b.Read p i key) = ask ≡ Some (k.Op (o.Read key))
RecordsAsk fs store ask (b.ReadGroup p i keys) = ask ≡ Some (k.Op (o.ReadGroup keys))
RecordsAsk fs store ask (b.Write p i place key here) = RecordsWrite store p place key here ask
RecordsAsk fs store ask (b.Spawn p i ordinal name args) = RecordsSpawn fs ordinal name args ask
RecordsAsk fs store ask (b.Join p i ordinal) = ask ≡ Some (k.Op (o.Join ordinal))
RecordsAsk fs store ask (b.Push p i queue value) = ask ≡ Some (k.Op (o.Push queue value))
RecordsAsk fs store ask (b.Pop p i queue) = ask ≡ Some (k.Op (o.Pop queue))
RecordsAsk fs store ask (b.TxnBegin p i names) = ask ≡ Some (k.Op (o.Begin names))
RecordsAsk fs store ask (b.TxnCommit p i begin names writes) = ask ≡ Some (k.Op (o.Commit names writes))
RecordsAsk fs store ask (b.Finish p i outcome) = ask ≡ Some (k.Done outcome)
RecordsAsk fs store ask _ = ⊥

-- A live step record of the invocation, with its index:
pub record IsReached (setup : Setup) (fs : List Function) (store : Store) (records : List (Live Body))
    (path : List ℕ) (x : Live Body) (index : ℕ)
    : Type 0 where
  -- the answers that are decided before it, the newest first
  pub before : List Answer
  pub index_is : index ≡ suc (length before)
  -- They are the first ones of those that all records decide ..
  pub first : first_decided_answers setup fs store records path (length before) ≡ before
  -- .. and all that the records below it decide.
  pub all : (n : ℕ) → length before ≤ n → first_decided_answers setup fs store (records_below x.seq records) path n ≡ before
  -- After them the script asks what the record says;
  pub asked : RecordsAsk fs store (asked_at fs path (invocation_state setup fs store path records) before) x.holds
  -- what the record answers is the next answer that is decided,
  pub own :
      (answer : Answer) → own_answer store (records_below x.seq records) x.seq x.holds ≡ Some answer
      → first_decided_answers setup fs store records path index ≡ answer ∷ before
  -- but a Finish answers nothing, and no more is decided.
  pub end :
      (outcome : Outcome) (n : ℕ) → x.holds ≡ b.Finish path index outcome → length before ≤ n
      → first_decided_answers setup fs store records path n ≡ before

-- The script is the function that was called, with the arguments of the call.
pub record IsCalled (fs : List Function) (records : List (Live Body)) (path : List ℕ) (state : InvocationState) : Type 0 where
  pub call : Call
  pub called : call_of path records ≡ Some call
  pub function_is : state.function ≡ function_of fs (Some call)
  pub args_are : state.args ≡ call.args

-- Of any path, in any machine:
pub record IsDecided (setup : Setup) (fs : List Function) (m : Machine) (path : List ℕ) : Type 0 where
  -- what the script is, once the invocation has begun
  pub called :
      (invocation_state setup fs (values_only m.store) path (live_records m)).begun ≡ true
      → IsCalled fs (live_records m) path (invocation_state setup fs (values_only m.store) path (live_records m))
  -- each answer is of what the script asks
  pub answered :
      (n : ℕ)
      → AnswerInOrder fs path (invocation_state setup fs (values_only m.store) path (live_records m))
      (first_decided_answers setup fs (values_only m.store) (live_records m) path n)
  -- each live step record comes where the script has come to
  pub reached :
      (x : Live Body) (index : ℕ) → IsAmong x (live_records m) → step_of x.holds ≡ Some (path, index)
      → IsReached setup fs (values_only m.store) (live_records m) path x index

abbrev pub DecidedAreScripts : Setup → List Function → Machine → Type 0
DecidedAreScripts setup fs m = (path : List ℕ) → IsDecided setup fs m path
