-- What the runtime needs where it makes a record, or starts a script.
use Rattle.std.specs.Prelude.{◌≡◌, ℕ, ◌<◌, ◌≤◌, List, length, Option, Some, IsTrue}
use Rattle.std.specs.List.{list_all, AllByRecursion}
use Rattle.lb_base.specs.declared.value.Value.{Value}
use Rattle.lb_base.specs.Path.{IsPath}
use Rattle.boki_types.specs.declared.body.Body.{Body}
use Rattle.boki_types.specs.declared.body.Body.TheVariants as b
use Rattle.boki_types.specs.declared.log.Call.{Call}
use Rattle.boki_types.specs.declared.program.Function.{Function}
use Rattle.boki_types.specs.declared.operation.Op.TheVariants as o
use Rattle.boki_types.specs.declared.operation.Ask.{Ask}
use Rattle.boki_types.specs.declared.operation.Ask.TheVariants as k
use Rattle.boki_types.specs.Finding.{find, arity}
use Rattle.boki_model.specs.Bodies.{is_u64, is_value, is_optional_value}
use Rattle.boki_machine.specs.Attempt.{call_of}
use Rattle.boki_machine.specs.Step.{function_name}
use Rattle.boki_machine.specs.Machine.{Machine, view}
use Rattle.script_ranges.specs.Asks.{AreFunctions, is_ask}
use Rattle.script_ranges.specs.Ranged.{is_known_call, BodyInRange, IsRanged}

-- The record of what is asked, of the invocation with the path p, with the index i; of a write also its place and the value that
-- stands in it, if any; of a commit also the seqnum of its begin.
abbrev pub body_of_ask : List Function → List ℕ → ℕ → ℕ → Option Value → ℕ → Ask → Body
body_of_ask fs p i place here begin (k.Op (o.Read key)) = b.Read p i key
body_of_ask fs p i place here begin (k.Op (o.Write key value)) = b.Write p i place key here
body_of_ask fs p i place here begin (k.Op (o.Spawn ordinal f args)) = b.Spawn p i ordinal (function_name f fs) args
body_of_ask fs p i place here begin (k.Op (o.Join ordinal)) = b.Join p i ordinal
body_of_ask fs p i place here begin (k.Op (o.Push queue value)) = b.Push p i queue value
body_of_ask fs p i place here begin (k.Op (o.Pop queue)) = b.Pop p i queue
body_of_ask fs p i place here begin (k.Op (o.Begin names)) = b.TxnBegin p i names
body_of_ask fs p i place here begin (k.Op (o.Commit names writes)) = b.TxnCommit p i begin names writes
body_of_ask fs p i place here begin (k.Op (o.ReadGroup keys)) = b.ReadGroup p i keys
body_of_ask fs p i place here begin (k.Done outcome) = b.Finish p i outcome

-- what is asked in range makes a record in range
abbrev pub AsksMakeRecords : Type 0
AsksMakeRecords =
    (fs : List Function) (p : List ℕ) (i place : ℕ) (here : Option Value) (begin : ℕ) (ask : Ask)
    → AreFunctions fs → IsPath p → 1 ≤ i → IsTrue (is_u64 i) → IsTrue (is_u64 place) → IsTrue (is_optional_value here) → IsTrue (is_u64 begin)
    → IsTrue (is_ask fs (length p) ask) → BodyInRange fs (body_of_ask fs p i place here begin ask)

-- a call by name is one of a function's number, with as many arguments as it has parameters
pub record CallFits (fs : List Function) (name : List ℕ) (args : List Value) : Type 0 where
  pub number : ℕ
  pub found : find name fs ≡ Some number
  pub known : number < length fs
  pub fits : arity number fs ≡ length args

abbrev pub CallsFit : Type 0
CallsFit = (fs : List Function) (name : List ℕ) (args : List Value) → IsTrue (is_known_call fs name args) → CallFits fs name args

-- what an engine sees is in range, and so is the call of an invocation
pub record SeesRanged (fs : List Function) (m : Machine) (engine : ℕ) : Type 0 where
  pub records : AllByRecursion (λ x. BodyInRange fs x.holds) (view m engine)
  pub known : (path : List ℕ) (call : Call) → call_of path (view m engine) ≡ Some call → IsTrue (is_known_call fs call.function call.args)
  pub args : (path : List ℕ) (call : Call) → call_of path (view m engine) ≡ Some call → IsTrue (list_all is_value call.args)

abbrev pub EnginesSeeRanged : Type 0
EnginesSeeRanged = (fs : List Function) (m : Machine) (engine : ℕ) → IsRanged fs m → SeesRanged fs m engine
