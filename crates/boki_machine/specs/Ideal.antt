-- The statement of the central theorem rests on this file.
-- The failure-free execution: scripts run one after another over maps of objects, queues and store names. It knows no log,
-- shard, attempt, version, fence or mode.
use Rattle.std.specs.Prelude.{ℕ, zero, suc, not, Bool, true, false, List, [], ◌∷◌, ◌++◌, length, map, Option, Some, None, option_map, option_and_then, unwrap_or}
use Rattle.lb_base.specs.declared.value.Value.{Value}
use Rattle.lb_base.specs.declared.value.Value.TheVariants.{Nothing}
use Rattle.lb_base.specs.declared.value.Outcome.{Outcome}
use Rattle.boki_types.specs.declared.operation.Op.TheVariants as op
use Rattle.boki_types.specs.declared.operation.Ask.{Ask}
use Rattle.boki_types.specs.declared.operation.Ask.TheVariants as ask
use Rattle.boki_types.specs.declared.operation.Answer.{Answer}
use Rattle.boki_types.specs.declared.operation.Answer.TheVariants as answer
use Rattle.boki_types.specs.declared.program.Function.{Function}
use Rattle.boki_types.specs.declared.turn.Turn.{Turn}
use Rattle.boki_types.specs.declared.turn.Turn.TheVariants as a_turn
use Rattle.boki_model.specs.Maps.{get, put}
use Rattle.boki_model.specs.Bodies.{child}
use Rattle.boki_model.specs.Script.{next_ask}
use Rattle.boki_model.specs.Folds.{push_queue, pop_queue, front, written_names, intersects, put_all, values_of_names}

-- an open transaction: the names that commits wrote since it began
abbrev pub Dirty : Type 0
Dirty = List (List ℕ)

-- an invocation: its function by number, its arguments, its answers, the newest first, its result, and its open transaction
pub record Invocation : Type 0 where
  pub function : ℕ
  pub args : List Value
  pub answers : List Answer
  pub result : Option Outcome
  pub transaction : Option Dirty

pub record Ideal : Type 0 where
  pub objects : List (List ℕ × Value)
  pub queues : List (List ℕ × List Value)
  pub names : List (List ℕ × Value)
  pub invocations : List (List ℕ × Invocation)

abbrev pub put_objects : List (List ℕ × Value) → List (List ℕ × Value)
put_objects [] = []
put_objects (x ∷ xs) = put x.0 x.1 (put_objects xs)

abbrev pub initial_ideal : List (List ℕ × Value) → Ideal
initial_ideal objects = record { objects = put_objects objects; queues = []; names = []; invocations = [] }

abbrev pub new_invocation : ℕ → List Value → Invocation
new_invocation f args = record { function = f; args = args; answers = []; result = None; transaction = None }

abbrev pub with_invocation : List ℕ → Invocation → Ideal → Ideal
with_invocation path invocation state = record state { invocations = put path invocation state.invocations }

-- a known invocation without a result
abbrev pub unless_ended : Invocation → Option Outcome → Option Invocation
unless_ended invocation None = Some invocation
unless_ended invocation (Some outcome) = None

abbrev pub running_invocation : List ℕ → Ideal → Option Invocation
running_invocation path state = option_and_then (λ invocation. unless_ended invocation invocation.result) (get path state.invocations)

abbrev pub answers : List ℕ → Invocation → Answer → Ideal → Ideal
answers path invocation answer state = with_invocation path (record invocation { answers = answer ∷ invocation.answers }) state

abbrev pub object_in : Ideal → List ℕ → Value
object_in state key = unwrap_or (get key state.objects) Nothing

abbrev pub objects_in : Ideal → List (List ℕ) → List Value
objects_in state keys = map (object_in state) keys

-- what a commit that succeeds writes is dirty in every open transaction
abbrev pub add_dirty : List (List ℕ) → Option Dirty → Option Dirty
add_dirty names transaction = option_map (λ dirty. names ++ dirty) transaction

abbrev pub add_dirty_to_all : List (List ℕ) → List (List ℕ × Invocation) → List (List ℕ × Invocation)
add_dirty_to_all names xs = map (λ x. (x.0, record (x.1) { transaction = add_dirty names x.1.transaction })) xs

abbrev pub commit_succeeds : List (List ℕ) → List (List ℕ × Value) → Option Dirty → Bool
commit_succeeds names writes None = false
commit_succeeds names writes (Some dirty) = not (intersects (names ++ written_names writes) dirty)

abbrev pub after_commit : Bool → List ℕ → Invocation → List (List ℕ × Value) → Ideal → Ideal
after_commit false path invocation writes state =
    answers path (record invocation { transaction = None }) (answer.Committed false) state
after_commit true path invocation writes state =
    answers path (record invocation { transaction = None }) (answer.Committed true)
    (record state { names = put_all writes state.names; invocations = add_dirty_to_all (written_names writes) state.invocations })

-- a join is undefined where the child has no result
abbrev pub join_child : List ℕ → Invocation → Option Outcome → Ideal → Option Ideal
join_child path invocation None state = None
join_child path invocation (Some outcome) state = Some (answers path invocation (answer.Joined outcome) state)

abbrev pub invocation_result : List ℕ → Ideal → Option Outcome
invocation_result path state = option_and_then (λ invocation. invocation.result) (get path state.invocations)

-- one operation acts on the maps at once; a script that is done has none
abbrev pub perform : List ℕ → Invocation → Ideal → Option Ask → Option Ideal
perform path invocation state (Some (ask.Op (op.Read key))) =
    Some (answers path invocation (answer.Value (object_in state key)) state)
perform path invocation state (Some (ask.Op (op.ReadGroup keys))) =
    Some (answers path invocation (answer.Values (objects_in state keys)) state)
perform path invocation state (Some (ask.Op (op.Write key v))) =
    Some (answers path invocation answer.Done (record state { objects = put key v state.objects }))
perform path invocation state (Some (ask.Op (op.Spawn ordinal f args))) =
    Some (with_invocation (child path ordinal) (new_invocation f args) (answers path invocation (answer.Spawned ordinal) state))
perform path invocation state (Some (ask.Op (op.Join ordinal))) =
    join_child path invocation (invocation_result (child path ordinal) state) state
perform path invocation state (Some (ask.Op (op.Push queue v))) =
    Some (answers path invocation answer.Done (record state { queues = push_queue queue v state.queues }))
perform path invocation state (Some (ask.Op (op.Pop queue))) =
    Some (answers path invocation (answer.Value (front queue state.queues)) (record state { queues = pop_queue queue state.queues }))
perform path invocation state (Some (ask.Op (op.Begin names))) =
    Some (answers path (record invocation { transaction = Some [] }) (answer.Values (values_of_names names state.names)) state)
perform path invocation state (Some (ask.Op (op.Commit names writes))) =
    Some (after_commit (commit_succeeds names writes invocation.transaction) path invocation writes state)
perform path invocation state _ = None

abbrev pub invocation_ask : List Function → List ℕ → Invocation → Option Ask
invocation_ask fs path invocation = next_ask fs invocation.function invocation.args (length path) invocation.answers

abbrev pub perform_next : List Function → List ℕ → Ideal → Option Ideal
perform_next fs path state =
    option_and_then (λ invocation. perform path invocation state (invocation_ask fs path invocation)) (running_invocation path state)

-- the next n operations
abbrev pub perform_many : List Function → ℕ → List ℕ → Ideal → Option Ideal
perform_many fs zero path state = option_map (λ invocation. state) (running_invocation path state)
perform_many fs (suc n) path state = option_and_then (perform_next fs path) (perform_many fs n path state)

-- the end of a script that is done
abbrev pub end_invocation : List ℕ → Invocation → Ideal → Option Ask → Option Ideal
end_invocation path invocation state (Some (ask.Done outcome)) =
    Some (with_invocation path (record invocation { result = Some outcome }) state)
end_invocation path invocation state _ = None

-- a request must be new
abbrev pub submit_request : ℕ → ℕ → List Value → Ideal → Option Invocation → Option Ideal
submit_request request f args state None = Some (with_invocation (request ∷ []) (new_invocation f args) state)
submit_request request f args state (Some invocation) = None

-- one turn, where it is defined
abbrev pub apply_turn : List Function → Turn → Ideal → Option Ideal
apply_turn fs (a_turn.Submit request f args) state = submit_request request f args state (get (request ∷ []) state.invocations)
apply_turn fs (a_turn.Go path n) state = perform_many fs n path state
apply_turn fs (a_turn.End path) state =
    option_and_then (λ invocation. end_invocation path invocation state (invocation_ask fs path invocation)) (running_invocation path state)

-- the turns in order
abbrev pub run_turns : List Function → List Turn → Ideal → Option Ideal
run_turns fs [] state = Some state
run_turns fs (x ∷ xs) state = option_and_then (run_turns fs xs) (apply_turn fs x state)
