-- The statement of the central theorem rests on this file.
-- What a program, a plan and an event of a plan are: the facts that reading their texts gives.
use Rattle.std.specs.Prelude.{ℕ, zero, suc, ◌+◌, ◌*◌, ◌^◌, ◌==◌, ◌&&◌, not, nat_le, nat_lt, max, Bool, true, false, List, [], ◌∷◌, ◌++◌, length, map, Option, Some, None}
use Rattle.std.specs.List.{list_all}
use Rattle.lb_base.specs.declared.value.Value.{Value}
use Rattle.lb_base.specs.declared.value.Tag.{Tag}
use Rattle.lb_base.specs.Path.{is_path, is_request}
use Rattle.boki_types.specs.declared.expr.Expr.{Expr, more_of-Expr, end_of-Expr}
use Rattle.boki_types.specs.declared.expr.Expr.TheVariants as expr
use Rattle.boki_types.specs.declared.program.Stmt.{Stmt}
use Rattle.boki_types.specs.declared.program.Stmt.TheVariants as stmt
use Rattle.boki_types.specs.declared.program.Function.{Function}
use Rattle.boki_types.specs.declared.program.Program.{Program}
use Rattle.boki_types.specs.declared.plan.Setup.{Setup}
use Rattle.boki_types.specs.declared.plan.Item.{Item}
use Rattle.boki_types.specs.declared.plan.Item.TheVariants.{One, Repeat}
use Rattle.boki_types.specs.declared.plan.Plan.{Plan}
use Rattle.boki_types.specs.declared.event.Event.{Event}
use Rattle.boki_types.specs.declared.event.Event.TheVariants as event
use Rattle.boki_types.specs.Finding.{find, function_at}
use Rattle.boki_model.specs.Bodies.{is_u64, is_i64, is_short_list, is_value, is_name, is_identifier, is_target}
use Rattle.boki_model.specs.Maps.{has}
use Rattle.boki_model.specs.Script.{pair_names, pair_expressions, both_sides}
use Rattle.boki_model.specs.declared.limits.TheConstants.{MAX_TEXT_BYTES, MAX_LIST_ITEMS, MAX_OPERANDS, MAX_NESTING, MAX_OUTER_BLOCKS, MAX_FUNCTIONS, MAX_SHARDS, MAX_REPLICAS, MAX_ENGINES, MAX_ATTEMPT, MAX_EVENTS}

abbrev pub in_bounds : ℕ → ℕ → ℕ → Bool
in_bounds low high n = nat_le low n && nat_le n high

-- no name stands twice
abbrev pub distinct : List (List ℕ) → Bool
distinct [] = true
distinct (n ∷ ns) = not (has n ns) && distinct ns

-- Expressions.

-- how many operands it has: integers, texts, `none` and variables
abbrev pub operand_count : Expr → ℕ
operand_count (expr.Int n) = 1
operand_count (expr.Text t) = 1
operand_count expr.Nothing = 1
operand_count (expr.Var x) = 1
operand_count (expr.Not' p' (more_of-Expr a end_of-Expr)) = operand_count a
operand_count (expr.Two' o p' (more_of-Expr a end_of-Expr) q' (more_of-Expr b end_of-Expr)) = operand_count a + operand_count b
operand_count (expr.TextOf' p' (more_of-Expr a end_of-Expr)) = operand_count a
operand_count (expr.Len' p' (more_of-Expr a end_of-Expr)) = operand_count a

-- how many of `not`, `text` and `len` stand in one another
abbrev pub nesting_depth : Expr → ℕ
nesting_depth (expr.Not' p' (more_of-Expr a end_of-Expr)) = suc (nesting_depth a)
nesting_depth (expr.Two' o p' (more_of-Expr a end_of-Expr) q' (more_of-Expr b end_of-Expr)) = max (nesting_depth a) (nesting_depth b)
nesting_depth (expr.TextOf' p' (more_of-Expr a end_of-Expr)) = suc (nesting_depth a)
nesting_depth (expr.Len' p' (more_of-Expr a end_of-Expr)) = suc (nesting_depth a)
nesting_depth _ = 0

-- its integers have 64 bits, its texts at most 256 bytes, and its variables are among those known
abbrev pub has_known_leaves : List (List ℕ) → Expr → Bool
has_known_leaves known (expr.Int n) = is_i64 n
has_known_leaves known (expr.Text t) = nat_le (length t) MAX_TEXT_BYTES
has_known_leaves known expr.Nothing = true
has_known_leaves known (expr.Var x) = has x known
has_known_leaves known (expr.Not' p' (more_of-Expr a end_of-Expr)) = has_known_leaves known a
has_known_leaves known (expr.Two' o p' (more_of-Expr a end_of-Expr) q' (more_of-Expr b end_of-Expr)) = has_known_leaves known a && has_known_leaves known b
has_known_leaves known (expr.TextOf' p' (more_of-Expr a end_of-Expr)) = has_known_leaves known a
has_known_leaves known (expr.Len' p' (more_of-Expr a end_of-Expr)) = has_known_leaves known a

abbrev pub is_expr : List (List ℕ) → Expr → Bool
is_expr known x = nat_le (operand_count x) MAX_OPERANDS && nat_le (nesting_depth x) MAX_NESTING && has_known_leaves known x

-- Statements.

abbrev pub expressions : Stmt → List Expr
expressions (stmt.Let x a) = a ∷ []
expressions (stmt.Read x a) = a ∷ []
expressions (stmt.Write a b) = a ∷ b ∷ []
expressions (stmt.Spawn x f es) = es
expressions (stmt.Join x a) = a ∷ []
expressions (stmt.Push a b) = a ∷ b ∷ []
expressions (stmt.Pop x a) = a ∷ []
expressions (stmt.Begin pairs) = pair_expressions pairs
expressions (stmt.Commit x pairs) = both_sides pairs
expressions (stmt.If a) = a ∷ []
expressions stmt.Else = []
expressions (stmt.While a) = a ∷ []
expressions stmt.End = []
expressions (stmt.Return a) = a ∷ []
expressions (stmt.ReadAll pairs) = pair_expressions pairs

-- the variables that it sets
abbrev pub variables_set : Stmt → List (List ℕ)
variables_set (stmt.Let x a) = x ∷ []
variables_set (stmt.Read x a) = x ∷ []
variables_set (stmt.Spawn x f es) = x ∷ []
variables_set (stmt.Join x a) = x ∷ []
variables_set (stmt.Pop x a) = x ∷ []
variables_set (stmt.Begin pairs) = pair_names pairs
variables_set (stmt.Commit x pairs) = x ∷ []
variables_set (stmt.ReadAll pairs) = pair_names pairs
variables_set _ = []

abbrev pub has_arity : ℕ → Option Function → Bool
has_arity n None = false
has_arity n (Some f) = n == length f.params

abbrev pub known_function : List Function → Option ℕ → Option Function
known_function fs None = None
known_function fs (Some n) = function_at n fs

-- counts, and the function of a spawn
abbrev pub has_valid_counts : List Function → Stmt → Bool
has_valid_counts fs (stmt.Spawn x f es) = has_arity (length es) (known_function fs (find f fs))
has_valid_counts fs (stmt.Begin pairs) = in_bounds 1 MAX_LIST_ITEMS (length pairs)
has_valid_counts fs (stmt.Commit x pairs) = is_short_list pairs
has_valid_counts fs (stmt.ReadAll pairs) = in_bounds 1 MAX_LIST_ITEMS (length pairs)
has_valid_counts fs _ = true

abbrev pub is_stmt : List Function → List (List ℕ) → Stmt → Bool
is_stmt fs known line = list_all (is_expr known) (expressions line) && list_all is_identifier (variables_set line) && has_valid_counts fs line

-- a variable is a parameter, or is set by a line above
abbrev pub are_stmts : List Function → List (List ℕ) → List Stmt → Bool
are_stmts fs known [] = true
are_stmts fs known (line ∷ lines) = is_stmt fs known line && are_stmts fs (variables_set line ++ known) lines

-- Blocks: the function itself is one, and at most 16 are open at once. Of an open block it is told whether an `else` may come.
abbrev pub is_balanced : List Bool → List Stmt → Bool
is_balanced [] [] = true
is_balanced (b ∷ bs) [] = false
is_balanced bs (stmt.If a ∷ lines) = nat_le (length bs) MAX_OUTER_BLOCKS && is_balanced (true ∷ bs) lines
is_balanced bs (stmt.While a ∷ lines) = nat_le (length bs) MAX_OUTER_BLOCKS && is_balanced (false ∷ bs) lines
is_balanced (true ∷ bs) (stmt.Else ∷ lines) = is_balanced (false ∷ bs) lines
is_balanced (false ∷ bs) (stmt.Else ∷ lines) = false
is_balanced [] (stmt.Else ∷ lines) = false
is_balanced (b ∷ bs) (stmt.End ∷ lines) = is_balanced bs lines
is_balanced [] (stmt.End ∷ lines) = false
is_balanced bs (_ ∷ lines) = is_balanced bs lines

abbrev pub is_function : List Function → Function → Bool
is_function fs f =
    is_identifier f.name && is_short_list f.params && list_all is_identifier f.params && distinct f.params
    && is_balanced [] f.lines && are_stmts fs f.params f.lines

abbrev pub function_names : List Function → List (List ℕ)
function_names fs = map (λ f. f.name) fs

abbrev pub is_program : Program → Bool
is_program p =
    nat_le (length p.functions) MAX_FUNCTIONS && distinct (function_names p.functions) && list_all (is_function p.functions) p.functions

-- Plans.

abbrev pub is_optional_engine : ℕ → Option ℕ → Bool
is_optional_engine engines None = true
is_optional_engine engines (Some n) = in_bounds 1 engines n

abbrev pub is_setup : Setup → Bool
is_setup setup =
    in_bounds 1 MAX_SHARDS setup.shards && in_bounds 1 MAX_REPLICAS setup.replicas && in_bounds 1 MAX_ENGINES setup.engines && is_target setup.mode && is_optional_engine setup.engines setup.newer

abbrev pub is_user_tag : Tag → Bool
is_user_tag tag = nat_lt tag.0 (2 ^ 56)

abbrev pub are_user_tags : List Tag → Bool
are_user_tags tags = in_bounds 1 MAX_LIST_ITEMS (length tags) && list_all is_user_tag tags

abbrev pub is_text : List ℕ → Bool
is_text text = nat_le (length text) MAX_TEXT_BYTES

-- a number from 1
abbrev pub is_from_one_to : ℕ → ℕ → Bool
is_from_one_to most n = in_bounds 1 most n

abbrev pub is_attempt : ℕ → Bool
is_attempt n = in_bounds 1 MAX_ATTEMPT n

-- an event that a plan with this setup and this program can have
abbrev pub is_event : Setup → List Function → Event → Bool
is_event setup fs (event.Submit engine request f args) =
    is_from_one_to setup.engines engine && is_request request && list_all is_value args && has_arity (length args) (function_at f fs)
is_event setup fs (event.Copy shard replica n) = is_from_one_to setup.shards shard && in_bounds 2 setup.replicas replica && is_u64 n
is_event setup fs event.Cut = true
is_event setup fs (event.Catch engine) = is_from_one_to setup.engines engine
is_event setup fs event.Sync = true
is_event setup fs (event.Restart engine) = is_from_one_to setup.engines engine
is_event setup fs (event.Start attempt path engine) = is_attempt attempt && is_path path && is_from_one_to setup.engines engine
is_event setup fs (event.Step attempt) = is_attempt attempt
is_event setup fs (event.Kill attempt) = is_attempt attempt
is_event setup fs (event.Lose attempt) = is_attempt attempt
is_event setup fs (event.Miss attempt) = is_attempt attempt
is_event setup fs (event.Switch engine target) = is_from_one_to setup.engines engine && is_target target
is_event setup fs (event.EndSwitch engine) = is_from_one_to setup.engines engine
is_event setup fs (event.Trim engine) = is_from_one_to setup.engines engine
is_event setup fs (event.Sweep engine) = is_from_one_to setup.engines engine
is_event setup fs (event.Append engine tags text) = is_from_one_to setup.engines engine && are_user_tags tags && is_text text
is_event setup fs (event.Cond engine place tags text) =
    is_from_one_to setup.engines engine && is_u64 place && are_user_tags tags && is_text text
is_event setup fs (event.Next engine tag from) = is_from_one_to setup.engines engine && is_user_tag tag && is_u64 from.0
is_event setup fs (event.Prev engine tag upto) = is_from_one_to setup.engines engine && is_user_tag tag && is_u64 upto.0
is_event setup fs (event.Tail engine tag) = is_from_one_to setup.engines engine && is_user_tag tag
is_event setup fs (event.TrimTag engine tag upto) = is_from_one_to setup.engines engine && is_user_tag tag && is_u64 upto.0
is_event setup fs (event.Settled engine shard local) =
    is_from_one_to setup.engines engine && is_from_one_to setup.shards shard && nat_le 1 local && is_u64 local
is_event setup fs (event.SetAux engine seq text) = is_from_one_to setup.engines engine && is_u64 seq.0 && is_text text
is_event setup fs (event.GetAux engine seq) = is_from_one_to setup.engines engine && is_u64 seq.0
is_event setup fs (event.Seed n) = is_u64 n

abbrev pub is_item : Setup → List Function → Item → Bool
is_item setup fs (One x) = is_event setup fs x
is_item setup fs (Repeat n xs) = in_bounds 1 MAX_EVENTS n && nat_le 1 (length xs) && list_all (is_event setup fs) xs

-- the events, with repeats done
abbrev pub repeat_events : ℕ → List Event → List Event
repeat_events zero xs = []
repeat_events (suc n) xs = xs ++ repeat_events n xs

abbrev pub events_of : Item → List Event
events_of (One x) = x ∷ []
events_of (Repeat n xs) = repeat_events n xs

abbrev pub events : List Item → List Event
events [] = []
events (i ∷ is) = events_of i ++ events is

-- how many events an item stands for
abbrev pub event_count : Item → ℕ
event_count (One x) = 1
event_count (Repeat n xs) = n * length xs

abbrev pub total_events : List Item → ℕ
total_events [] = 0
total_events (i ∷ is) = event_count i + total_events is

abbrev pub are_objects : List (List ℕ × Value) → Bool
are_objects objects = distinct (map (λ o. o.0) objects) && list_all (λ o. is_name o.0 && is_value o.1) objects

abbrev pub is_plan : Plan → Bool
is_plan p = is_setup p.setup && are_objects p.objects && is_program p.program
    && list_all (is_item p.setup p.program.functions) p.items && nat_le (total_events p.items) MAX_EVENTS
