-- What an invocation has decided: one fold of the live records, the newest first, over the versions that the store has. Each
-- step record of the path answers its operation, and the free operations between two step records answer by positions: in mode
-- R a read answers the last write at or below the cursor, in mode W a write whose version is there is done. Every attempt of
-- the invocation gets these answers and no others.
use Rattle.std.specs.Prelude.{ℕ, zero, suc, ◌-◌, Bool, true, false, if◌then◌else◌, List, [], ◌∷◌, length, drop, Option, Some, None, unwrap_or, bytes_eq}
use Rattle.lb_base.specs.declared.value.Value.{Value}
use Rattle.lb_base.specs.declared.value.Value.TheVariants.{Nothing}
use Rattle.lb_base.specs.declared.value.Mode.{Mode}
use Rattle.lb_base.specs.declared.value.Mode.TheVariants.{R, W}
use Rattle.lb_base.specs.declared.value.Outcome.{Outcome}
use Rattle.boki_types.specs.declared.body.Body.{Body}
use Rattle.boki_types.specs.declared.body.Body.TheVariants as body
use Rattle.boki_types.specs.declared.log.Call.{Call}
use Rattle.boki_types.specs.declared.operation.Op.TheVariants as op
use Rattle.boki_types.specs.declared.operation.Ask.{Ask}
use Rattle.boki_types.specs.declared.operation.Ask.TheVariants as ask
use Rattle.boki_types.specs.declared.operation.Answer.{Answer}
use Rattle.boki_types.specs.declared.operation.Answer.TheVariants as answer
use Rattle.boki_types.specs.declared.plan.Setup.{Setup}
use Rattle.boki_types.specs.declared.program.Function.{Function}
use Rattle.boki_types.specs.Finding.{find}
use Rattle.boki_model.specs.Live.{Live}
use Rattle.boki_model.specs.Bodies.{child, step_of}
use Rattle.boki_model.specs.Modes.{result_of, mode_after}
use Rattle.boki_model.specs.Writes.{Store, last_value_below, has_version}
use Rattle.boki_model.specs.Script.{next_ask}
use Rattle.boki_model.specs.Folds.{queues, front, commits, succeeds, store_values, values_of_names}
use Rattle.boki_machine.specs.Attempt.{call_of}

-- The state of an invocation at its last step record: whether its Init is there, its mode, its function and arguments, its
-- place and cursor, the answers up to that record's own, the newest first, the begin of its open transaction, and its result.
pub record InvocationState : Type 0 where
  pub begun : Bool
  pub mode : Mode
  pub function : ℕ
  pub args : List Value
  pub place : ℕ
  pub cursor : ℕ
  pub answers : List Answer
  pub transaction : Option ℕ
  pub result : Option Outcome

abbrev pub not_begun : InvocationState
not_begun = record {
  begun = false;
  mode = R;
  function = 0;
  args = [];
  place = 0;
  cursor = 0;
  answers = [];
  transaction = None;
  result = None;
}

abbrev pub asked_at : List Function → List ℕ → InvocationState → List Answer → Option Ask
asked_at fs path state answers = next_ask fs state.function state.args (length path) answers

abbrev pub value_or_none : Option Value → Value
value_or_none v = unwrap_or v Nothing

abbrev pub values_below : ℕ → ℕ → Store → List (Live Body) → List (List ℕ) → List Value
values_below first second store records [] = []
values_below first second store records (key ∷ keys) =
    value_or_none (last_value_below key first second store records) ∷ values_below first second store records keys

-- what a free operation answers, where it is decided; so many free operations since the cursor came before it
abbrev pub free_answer : Store → List (Live Body) → ℕ → ℕ → Mode → Option Ask → Option Answer
free_answer store records cursor since R (Some (ask.Op (op.Read key))) =
    Some (answer.Value (value_or_none (last_value_below key (suc cursor) 0 store records)))
free_answer store records cursor since R (Some (ask.Op (op.ReadGroup keys))) =
    Some (answer.Values (values_below (suc cursor) 0 store records keys))
free_answer store records cursor since W (Some (ask.Op (op.Write key v))) =
    if has_version key cursor (suc since) store then Some answer.Done else None
free_answer store records cursor since _ _ = None

abbrev pub add_answer : Option Answer → List Answer → List Answer
add_answer None answers = answers
add_answer (Some x) answers = x ∷ answers

-- up to n free operations more
abbrev pub with_free_answers : List Function → Store → List (Live Body) → List ℕ → InvocationState → ℕ → List Answer
with_free_answers fs store records path state zero = state.answers
with_free_answers fs store records path state (suc n) =
    let answers = with_free_answers fs store records path state n in
    add_answer (free_answer store records state.cursor (length answers - length state.answers) state.mode (asked_at fs path state answers)) answers

abbrev pub join_answer : Option Outcome → Option Answer
join_answer None = None
join_answer (Some outcome) = Some (answer.Joined outcome)

-- what a step record answers, by the records before it
abbrev pub own_answer : Store → List (Live Body) → ℕ → Body → Option Answer
own_answer store past seq (body.Read p i key) = Some (answer.Value (value_or_none (last_value_below key seq 0 store past)))
own_answer store past seq (body.ReadGroup p i keys) = Some (answer.Values (values_below seq 0 store past keys))
own_answer store past seq (body.Write p i place key value) = Some answer.Done
own_answer store past seq (body.Spawn p i ordinal f args) = Some (answer.Spawned ordinal)
own_answer store past seq (body.Join p i ordinal) = join_answer (result_of (child p ordinal) past)
own_answer store past seq (body.Push p i queue value) = Some answer.Done
own_answer store past seq (body.Pop p i queue) = Some (answer.Value (front queue (queues past)))
own_answer store past seq (body.TxnBegin p i names) = Some (answer.Values (values_of_names names (store_values (commits past))))
own_answer store past seq (body.TxnCommit p i begin names writes) =
    Some (answer.Committed (succeeds begin names writes (commits past)))
own_answer store past seq _ = None

abbrev pub transaction_after : ℕ → Body → Option ℕ → Option ℕ
transaction_after seq (body.TxnBegin p i names) old = Some seq
transaction_after seq (body.TxnCommit p i begin names writes) old = None
transaction_after seq _ old = old

-- an operation's record, with its index: the free operations before it are done, and then it is answered
abbrev pub after_operation : List Function → Store → List (Live Body) → List ℕ → ℕ → Body → ℕ → InvocationState → InvocationState
after_operation fs store past path seq body index state = record state {
  place = suc state.place;
  cursor = seq;
  transaction = transaction_after seq body state.transaction;
  answers = add_answer (own_answer store past seq body) (with_free_answers fs store past path state (index - suc (length state.answers)));
}

abbrev pub function_of : List Function → Option Call → ℕ
function_of fs None = 0
function_of fs (Some c) = unwrap_or (find c.function fs) 0

abbrev pub args_of : Option Call → List Value
args_of None = []
args_of (Some c) = c.args

abbrev pub after_init : Setup → List Function → List (Live Body) → ℕ → Option Call → InvocationState
after_init setup fs past seq call = record {
  begun = true;
  mode = mode_after setup.mode past;
  function = function_of fs call;
  args = args_of call;
  place = 1;
  cursor = seq;
  answers = [];
  transaction = None;
  result = None;
}

-- the end, with its index: the free operations before it are done, and there is no further operation
abbrev pub after_finish : List Function → Store → List (Live Body) → List ℕ → ℕ → Outcome → ℕ → InvocationState → InvocationState
after_finish fs store past path seq outcome index state = record state {
  place = suc state.place;
  cursor = seq;
  result = Some outcome;
  answers = with_free_answers fs store past path state (index - suc (length state.answers));
}

-- one step record of the path
abbrev pub after_step_record : Setup → List Function → Store → List (Live Body) → List ℕ → ℕ → Body → ℕ → InvocationState → InvocationState
after_step_record setup fs store past path seq (body.Init p) index state = after_init setup fs past seq (call_of path past)
after_step_record setup fs store past path seq (body.Finish p i outcome) index state = after_finish fs store past path seq outcome index state
after_step_record setup fs store past path seq body index state = after_operation fs store past path seq body index state

abbrev pub after_record : Setup → List Function → Store → List (Live Body) → List ℕ → Live Body → Option (List ℕ × ℕ) → InvocationState → InvocationState
after_record setup fs store past path x None state = state
after_record setup fs store past path x (Some s) state =
    if bytes_eq path s.0 then after_step_record setup fs store past path x.seq x.holds s.1 state else state

abbrev pub invocation_state : Setup → List Function → Store → List ℕ → List (Live Body) → InvocationState
invocation_state setup fs store path [] = not_begun
invocation_state setup fs store path (x ∷ xs) = after_record setup fs store xs path x (step_of x.holds) (invocation_state setup fs store path xs)

-- the oldest n of a list with the newest first
abbrev pub oldest : {X : Type 0} → ℕ → List X → List X
oldest n xs = drop (length xs - n) xs

-- the first n answers that are decided, or all of them where there are fewer; the newest stands
-- first. Of an invocation that hasn't begun nothing is decided.
abbrev pub first_decided_answers : Setup → List Function → Store → List (Live Body) → List ℕ → ℕ → List Answer
first_decided_answers setup fs store records path n =
    let state = invocation_state setup fs store path records in
    let count = n - length state.answers in
    if state.begun then oldest n (with_free_answers fs store records path state count) else []
