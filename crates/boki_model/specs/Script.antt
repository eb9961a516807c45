-- The statement of the central theorem rests on this file.
-- What a script does: it runs until it asks an operation of its runtime, or ends. `next_ask` is what a function asks after a list
-- of answers, the newest of which stands first: it is run from its start, and takes one answer for each operation.
use Rattle.std.specs.Prelude.{ℕ, zero, suc, ◌==◌, ◌&&◌, ◌||◌, nat_le, Bool, if◌then◌else◌, List, [], ◌∷◌, length, map, Option, Some, None, unwrap_or, option_map, option_and_then, Result, Ok, Err, pos}
use Rattle.lb_base.specs.declared.value.Value.{Value}
use Rattle.lb_base.specs.declared.value.Value.TheVariants.{Int, Nothing}
use Rattle.lb_base.specs.declared.value.TrapKind.{TrapKind}
use Rattle.lb_base.specs.declared.value.TrapKind.TheVariants as trap
use Rattle.lb_base.specs.declared.value.Outcome.{Outcome}
use Rattle.lb_base.specs.declared.value.Outcome.TheVariants.{Good, Trap}
use Rattle.boki_types.specs.declared.expr.Expr.{Expr}
use Rattle.boki_types.specs.declared.program.Stmt.{Stmt}
use Rattle.boki_types.specs.declared.program.Stmt.TheVariants as stmt
use Rattle.boki_types.specs.declared.program.Function.{Function}
use Rattle.boki_types.specs.declared.operation.Op.{Op}
use Rattle.boki_types.specs.declared.operation.Op.TheVariants as op
use Rattle.boki_types.specs.declared.operation.Ask.{Ask}
use Rattle.boki_types.specs.declared.operation.Ask.TheVariants as ask
use Rattle.boki_types.specs.declared.operation.Answer.{Answer}
use Rattle.boki_types.specs.declared.operation.Answer.TheVariants as answer
use Rattle.boki_types.specs.Finding.{find, function_at}
use Rattle.boki_model.specs.Maps.{put}
use Rattle.boki_model.specs.Values.{and_then, bool_value, as_condition, eval, eval_all, to_name, to_names}
use Rattle.boki_model.specs.declared.limits.TheConstants.{MAX_PATH_NUMBERS, ORDINALS_BELOW, MAX_LOOP_ENTRIES}

-- an open block: a branch, or a loop with its condition and the lines behind its `while`
pub data Block : Type 0 where
  Branch : Block
  Loop : (test : Expr) (body : List Stmt) → Block

-- what a script has made so far: its variables, its open blocks, the innermost first, how many children it has spawned, and
-- the names that its open transaction has read
pub record State : Type 0 where
  pub variables : List (List ℕ × Value)
  pub blocks : List Block
  pub spawned : ℕ
  pub transaction : Option (List (List ℕ))

-- which variables an answer sets
pub data Target : Type 0 where
  Nowhere : Target
  One : (variable : List ℕ) → Target
  Each : (variables : List (List ℕ)) → Target

-- where a script stands: at an operation, with what its answer sets and the lines behind it, or at its end
pub data StopPoint : Type 0 where
  AtOperation : (operation : Op) (target : Target) (lines : List Stmt) (state : State) → StopPoint
  AtEnd : (outcome : Outcome) → StopPoint

-- what a line does: the script goes on behind it; or skips to the `else` or the `end` of the block; or enters the body of a
-- loop; or stands still
pub data Flow : Type 0 where
  Next : (state : State) → Flow
  Skip : (state : State) → Flow
  Enter : (body : List Stmt) (state : State) → Flow
  Stop : (stop_point : StopPoint) → Flow

abbrev pub set_variable : List ℕ → Value → State → State
set_variable x v state = record state { variables = put x v state.variables }

abbrev pub set_variables : List (List ℕ) → List Value → State → State
set_variables [] vs state = state
set_variables (x ∷ xs) [] state = state
set_variables (x ∷ xs) (v ∷ vs) state = set_variables xs vs (set_variable x v state)

abbrev pub push_block : Block → State → State
push_block b state = record state { blocks = b ∷ state.blocks }

abbrev pub outer_blocks : List Block → List Block
outer_blocks [] = []
outer_blocks (b ∷ bs) = bs

abbrev pub pop_block : State → State
pop_block state = record state { blocks = outer_blocks state.blocks }

-- a computation that traps ends the script
abbrev pub then_flow : {X : Type 0} → Result X TrapKind → (X → Flow) → Flow
then_flow (Ok x) f = f x
then_flow (Err t) f = Stop (AtEnd (Trap t))

abbrev pub stop_at : Target → List Stmt → State → Op → Flow
stop_at target lines state op = Stop (AtOperation op target lines state)

abbrev pub stop_with_trap : TrapKind → Flow
stop_with_trap t = Stop (AtEnd (Trap t))

-- the condition of a branch or a loop
abbrev pub test_condition : Expr → State → (Bool → Flow) → Flow
test_condition test state f = then_flow (and_then (eval test state.variables) as_condition) f

-- Operations. After all of the statement's expressions the first name that isn't one traps `key`; then come a push of none,
-- a transaction that is open or isn't, a spawn too deep or one too many, and a join of what wasn't spawned.

abbrev pub unless_none : Value → Flow → Flow
unless_none Nothing flow = stop_with_trap trap.Kind
unless_none _ flow = flow

abbrev pub outside_transaction : Option (List (List ℕ)) → Flow → Flow
outside_transaction None flow = flow
outside_transaction (Some names) flow = stop_with_trap trap.Txn

abbrev pub inside_transaction : Option (List (List ℕ)) → (List (List ℕ) → Flow) → Flow
inside_transaction None f = stop_with_trap trap.Txn
inside_transaction (Some names) f = f names

abbrev pub spawn_flow : List Function → ℕ → List ℕ → List ℕ → List Stmt → State → List Value → Flow
spawn_flow fs depth x f lines state args =
    if (depth == MAX_PATH_NUMBERS) || (suc state.spawned == ORDINALS_BELOW) then stop_with_trap trap.Spawn
    else stop_at (One x) lines state (op.Spawn (suc state.spawned) (unwrap_or (find f fs) 0) args)

abbrev pub join_flow : List ℕ → List Stmt → State → Value → Flow
join_flow x lines state (Int (pos n)) =
    if nat_le 1 n && nat_le n state.spawned then stop_at (One x) lines state (op.Join n) else stop_with_trap trap.Join
join_flow x lines state _ = stop_with_trap trap.Join

-- the names and the values of a commit stand in turn
abbrev pub both_sides : List (Expr × Expr) → List Expr
both_sides [] = []
both_sides (p ∷ ps) = p.0 ∷ p.1 ∷ both_sides ps

abbrev pub left_values : List Value → List Value
left_values (n ∷ v ∷ vs) = n ∷ left_values vs
left_values _ = []

abbrev pub pair_writes : List (List ℕ) → List Value → List (List ℕ × Value)
pair_writes (n ∷ ns) (m ∷ v ∷ vs) = (n, v) ∷ pair_writes ns vs
pair_writes _ _ = []

abbrev pub pair_names : List (List ℕ × Expr) → List (List ℕ)
pair_names pairs = map (λ p. p.0) pairs

abbrev pub pair_expressions : List (List ℕ × Expr) → List Expr
pair_expressions pairs = map (λ p. p.1) pairs

-- the end of the innermost block: a loop tests its condition again
abbrev pub end_block : List Block → State → Flow
end_block [] state = Next state
end_block (Branch ∷ bs) state = Next (pop_block state)
end_block (Loop test body ∷ bs) state = test_condition test state (λ b. if b then Enter body state else Next (pop_block state))

-- one line, with the lines behind it
abbrev pub execute : List Function → ℕ → Stmt → List Stmt → State → Flow
execute fs depth (stmt.Let x e) lines state = then_flow (eval e state.variables) (λ v. Next (set_variable x v state))
execute fs depth (stmt.Read x e) lines state =
    then_flow (and_then (eval e state.variables) to_name) (λ key. stop_at (One x) lines state (op.Read key))
execute fs depth (stmt.Write e f) lines state =
    then_flow (eval e state.variables) (λ n. then_flow (eval f state.variables) (λ v. then_flow (to_name n) (λ key. stop_at Nowhere lines state (op.Write key v))))
execute fs depth (stmt.Spawn x f es) lines state = then_flow (eval_all es state.variables) (spawn_flow fs depth x f lines state)
execute fs depth (stmt.Join x e) lines state = then_flow (eval e state.variables) (join_flow x lines state)
execute fs depth (stmt.Push e f) lines state =
    then_flow (eval e state.variables) (λ n. then_flow (eval f state.variables) (λ v. then_flow (to_name n) (λ queue. unless_none v (stop_at Nowhere lines state (op.Push queue v)))))
execute fs depth (stmt.Pop x e) lines state =
    then_flow (and_then (eval e state.variables) to_name) (λ queue. stop_at (One x) lines state (op.Pop queue))
execute fs depth (stmt.Begin pairs) lines state =
    then_flow (and_then (eval_all (pair_expressions pairs) state.variables) to_names) (λ names. outside_transaction state.transaction (stop_at (Each (pair_names pairs)) lines state (op.Begin names)))
execute fs depth (stmt.Commit x pairs) lines state =
    then_flow (eval_all (both_sides pairs) state.variables) (λ vs. then_flow (to_names (left_values vs)) (λ ns. inside_transaction state.transaction (λ read. stop_at (One x) lines state (op.Commit read (pair_writes ns vs)))))
execute fs depth (stmt.If e) lines state = test_condition e state (λ b. if b then Next (push_block Branch state) else Skip state)
execute fs depth stmt.Else lines state = Skip (pop_block state)
execute fs depth (stmt.While e) lines state =
    test_condition e state (λ b. if b then Enter lines (push_block (Loop e lines) state) else Skip state)
execute fs depth stmt.End lines state = end_block state.blocks state
execute fs depth (stmt.Return e) lines state = then_flow (eval e state.variables) (λ v. Stop (AtEnd (Good v)))
execute fs depth (stmt.ReadAll pairs) lines state =
    then_flow (and_then (eval_all (pair_expressions pairs) state.variables) to_names) (λ keys. stop_at (Each (pair_names pairs)) lines state (op.ReadGroup keys))

-- a line that is skipped, with how many blocks are open inside the skipped one: it is the end of that block, or its `else`,
-- behind which a branch is open; or the script skips on
pub data Skipped : Type 0 where
  BlockEnds : Skipped
  ElseBegins : Skipped
  SkipsOn : (depth : ℕ) → Skipped

abbrev pub skip_line : ℕ → Stmt → Skipped
skip_line depth (stmt.If e) = SkipsOn (suc depth)
skip_line depth (stmt.While e) = SkipsOn (suc depth)
skip_line zero stmt.Else = ElseBegins
skip_line zero stmt.End = BlockEnds
skip_line (suc depth) stmt.End = SkipsOn depth
skip_line depth _ = SkipsOn depth

-- The lines from here on; `enter_body` is what a loop's body does. Lines are skipped where a number of open blocks is given.
abbrev pub execute_from : List Function → ℕ → (List Stmt → State → StopPoint) → Option ℕ → List Stmt → State → StopPoint
execute_from fs depth enter_body skipping [] state = AtEnd (Good Nothing)
execute_from fs depth enter_body None (l ∷ ls) state = elim (execute fs depth l ls state) [
  | Next u ↦ execute_from fs depth enter_body None ls u
  | Skip u ↦ execute_from fs depth enter_body (Some 0) ls u
  | Enter body u ↦ enter_body body u
  | Stop stop_point ↦ stop_point
]
execute_from fs depth enter_body (Some n) (l ∷ ls) state = elim (skip_line n l) [
  | BlockEnds ↦ execute_from fs depth enter_body None ls state
  | ElseBegins ↦ execute_from fs depth enter_body None ls (push_block Branch state)
  | SkipsOn m ↦ execute_from fs depth enter_body (Some m) ls state
]

-- The body of a loop, where so many entries are left. Entries into the bodies of all loops since the last operation, or since
-- the start, are counted together.
abbrev pub enter_body : List Function → ℕ → ℕ → List Stmt → State → StopPoint
enter_body fs depth zero body state = AtEnd (Trap trap.Loop)
enter_body fs depth (suc n) body state = execute_from fs depth (enter_body fs depth n) None body state

abbrev pub entries : ℕ
entries = MAX_LOOP_ENTRIES

abbrev pub run_script : List Function → ℕ → List Stmt → State → StopPoint
run_script fs depth lines state = execute_from fs depth (enter_body fs depth entries) None lines state

-- the start of a function: its parameters have the arguments
abbrev pub initial_state : List (List ℕ) → List Value → State
initial_state params args = set_variables params args (record { variables = []; blocks = []; spawned = 0; transaction = None })

abbrev pub start_function : List Function → ℕ → List Value → Option Function → Option StopPoint
start_function fs depth args None = None
start_function fs depth args (Some f) =
    if length f.params == length args then Some (run_script fs depth f.lines (initial_state f.params args)) else None

-- An answer, where it is of the kind that the operation wants: what the script has made then, or how it traps. A join whose
-- child trapped traps after its answer.

abbrev pub set_target : Target → Value → State → State
set_target (One x) v state = set_variable x v state
set_target _ v state = state

abbrev pub set_targets : Target → List Value → State → State
set_targets (Each xs) vs state = set_variables xs vs state
set_targets _ vs state = state

abbrev pub set_joined : Target → Outcome → State → Result State TrapKind
set_joined target (Good v) state = Ok (set_target target v state)
set_joined target (Trap why) state = Err trap.Join

abbrev pub apply_answer : Op → Target → Answer → State → Option (Result State TrapKind)
apply_answer (op.Read key) target (answer.Value v) state = Some (Ok (set_target target v state))
apply_answer (op.Write key value) target answer.Done state = Some (Ok state)
apply_answer (op.Spawn ordinal f args) target (answer.Spawned n) state =
    if n == ordinal then Some (Ok (record (set_target target (Int (pos n)) state) { spawned = n })) else None
apply_answer (op.Join ordinal) target (answer.Joined outcome) state = Some (set_joined target outcome state)
apply_answer (op.Push queue value) target answer.Done state = Some (Ok state)
apply_answer (op.Pop queue) target (answer.Value v) state = Some (Ok (set_target target v state))
apply_answer (op.Begin names) target (answer.Values vs) state =
    if length vs == length names then Some (Ok (record (set_targets target vs state) { transaction = Some names })) else None
apply_answer (op.Commit names writes) target (answer.Committed good) state =
    Some (Ok (record (set_target target (bool_value good) state) { transaction = None }))
apply_answer (op.ReadGroup keys) target (answer.Values vs) state =
    if length vs == length keys then Some (Ok (set_targets target vs state)) else None
apply_answer _ target _ state = None

abbrev pub continue_after : List Function → ℕ → List Stmt → Result State TrapKind → StopPoint
continue_after fs depth lines (Ok state) = run_script fs depth lines state
continue_after fs depth lines (Err why) = AtEnd (Trap why)

abbrev pub resume : List Function → ℕ → Answer → StopPoint → Option StopPoint
resume fs depth answer (AtOperation op target lines state) = option_map (continue_after fs depth lines) (apply_answer op target answer state)
resume fs depth answer (AtEnd outcome) = None

-- where the function with this number stands after these answers, the newest of which stands first; its depth is the length of
-- its path. It is defined where each answer is of its operation's kind and none is left over
abbrev pub stop_point : List Function → ℕ → List Value → ℕ → List Answer → Option StopPoint
stop_point fs f args depth [] = start_function fs depth args (function_at f fs)
stop_point fs f args depth (x ∷ xs) = option_and_then (resume fs depth x) (stop_point fs f args depth xs)

abbrev pub ask_of : StopPoint → Ask
ask_of (AtOperation op target lines state) = ask.Op op
ask_of (AtEnd outcome) = ask.Done outcome

abbrev pub next_ask : List Function → ℕ → List Value → ℕ → List Answer → Option Ask
next_ask fs f args depth answers = option_map ask_of (stop_point fs f args depth answers)
