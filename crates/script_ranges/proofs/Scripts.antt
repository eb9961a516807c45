-- A script asks what is in range, by what its lines do.
use Rattle.std.proofs.Common.{◌≡◌, ℕ, zero, suc, ◌+◌, ◌≤◌, Bool, true, false, cond, not, eqb, leb, ltb, ◌&&◌, ◌||◌, List, [], ◌∷◌, length, Option, Some, None, option_map, Result, Ok, Err, refl, ap, ◌∙◌, subst, arith}
use Rattle.std.specs.Prelude.{pos, option_and_then, unwrap_or}
use Rattle.std.specs.List.{list_all, AllByRecursion}
use Rattle.std.proofs.lemmas.Bool.{and_parts, and_from, leb-true, le-leb, ltb-true, lt-ltb, eqb-false}
use Rattle.lb_base.specs.declared.value.Value.{Value}
use Rattle.lb_base.specs.declared.value.Value.TheVariants.{Int, Text, Nothing}
use Rattle.lb_base.specs.declared.value.TrapKind.{TrapKind}
use Rattle.lb_base.specs.declared.value.TrapKind.TheVariants as trap
use Rattle.lb_base.specs.declared.value.Outcome.{Outcome}
use Rattle.lb_base.specs.declared.value.Outcome.TheVariants.{Good, Trap}
use Rattle.lb_base.specs.Path.{is_ordinal}
use Rattle.boki_types.specs.declared.expr.Expr.{Expr}
use Rattle.boki_types.specs.declared.program.Stmt.{Stmt}
use Rattle.boki_types.specs.declared.program.Stmt.TheVariants as s
use Rattle.boki_types.specs.declared.program.Function.{Function}
use Rattle.boki_types.specs.declared.operation.Op.{Op}
use Rattle.boki_types.specs.declared.operation.Op.TheVariants as o
use Rattle.boki_types.specs.declared.operation.Answer.{Answer}
use Rattle.boki_types.specs.declared.operation.Answer.TheVariants as a
use Rattle.boki_types.specs.Finding.{find, function_at}
use Rattle.boki_model.specs.Bodies.{is_value, is_name, is_identifier, is_outcome, is_short_list, are_names}
use Rattle.boki_model.specs.Values.{and_then, bool_value, as_condition, eval, eval_all, to_name, to_names}
use Rattle.boki_model.specs.Plans.{in_bounds, has_known_leaves, is_expr, operand_count, nesting_depth, expressions, variables_set, has_arity, known_function, has_valid_counts}
use Rattle.boki_model.specs.Script.{Block, Branch, Loop, State, Target, Nowhere, One, Each, StopPoint, AtOperation, AtEnd, Flow, Next, Skip, Enter, Stop, set_variable, set_variables, push_block, pop_block, outer_blocks, then_flow, stop_at, stop_with_trap, unless_none, outside_transaction, inside_transaction, spawn_flow, join_flow, pair_writes, pair_names, pair_expressions, both_sides, left_values, end_block, execute, Skipped, BlockEnds, ElseBegins, SkipsOn, skip_line, execute_from, enter_body, entries, run_script, initial_state, start_function, set_target, set_targets, set_joined, apply_answer, continue_after, resume, stop_point, ask_of, next_ask}
use Rattle.script_ranges.specs.Asks.{AreFunctions, is_answer, is_store_write, is_op, is_ask, AsksAreRanged}
use Rattle.script_ranges.proofs.Each.{OkHas, SomeHas, some_has, then_has, each_of, all_of_each}
use Rattle.script_ranges.proofs.Evals.{IsVal, Variables, put_has, truth_val, eval_gives, Values, eval_all_gives, mag_fits, name_gives, Names, names_give}
use Rattle.script_ranges.proofs.Functions.{IsLine, AreLines, IsFunction, function_is, few_args}

-- the names of 1 to 8 expressions are as many
some_are : (n : ℕ) (ns : List (List ℕ)) → in_bounds 1 8 n ≡ true → Names n ns → are_names ns ≡ true
some_are n ns few_n are = and_from (in_bounds 1 8 (length ns)) (list_all is_name ns) (ap (in_bounds 1 8) are.1 ∙ few_n) (all_of_each is_name ns are.0)

-- What a commit writes.

paired_few : (ns : List (List ℕ)) (vs : List Value) → length (pair_writes ns vs) + length (pair_writes ns vs) ≤ length vs
paired_few [] vs = omega arith
paired_few (n ∷ ns) [] = omega arith
paired_few (n ∷ ns) (m ∷ []) = omega arith
paired_few (n ∷ ns) (m ∷ v ∷ vs) = let rest = paired_few ns vs in omega (arith, rest)

paired_are : (ns : List (List ℕ)) (vs : List Value) → AllByRecursion (λ n. is_name n ≡ true) ns → AllByRecursion IsVal vs → AllByRecursion (λ w. is_store_write w ≡ true) (pair_writes ns vs)
paired_are [] vs names values = tt
paired_are (n ∷ ns) [] names values = tt
paired_are (n ∷ ns) (m ∷ []) names values = tt
paired_are (n ∷ ns) (m ∷ v ∷ vs) names values = (and_from (is_name n) (is_value v) names.0 values.1.0, paired_are ns vs names.1 values.1.1)

sides_length : (pairs : List (Expr × Expr)) → length (both_sides pairs) ≡ length pairs + length pairs
sides_length [] = refl
sides_length (p ∷ ps) = let rest = sides_length ps in omega (arith, rest)

seconds_length : (pairs : List (List ℕ × Expr)) → length (pair_expressions pairs) ≡ length pairs
seconds_length [] = refl
seconds_length (p ∷ ps) = ap suc (seconds_length ps)

module _ (fs : List Function) (depth : ℕ) where
  -- A script stands in range.

  abbrev IsBlock : Block → Type 0
  IsBlock Branch = Unit {0}
  IsBlock (Loop test body) = ((known : List (List ℕ)) × (has_known_leaves known test ≡ true)) × AreLines fs body

  abbrev IsTransaction : Option (List (List ℕ)) → Type 0
  IsTransaction None = Unit {0}
  IsTransaction (Some names) = are_names names ≡ true

  record IsState (t : State) : Type 0 where
    variables : Variables t.variables
    blocks : AllByRecursion IsBlock t.blocks
    spawned : t.spawned ≤ 4095
    transaction : IsTransaction t.transaction

  abbrev Stands : StopPoint → Type 0
  Stands (AtOperation op target lines t) = (is_op fs depth op ≡ true) × AreLines fs lines × IsState t
  Stands (AtEnd outcome) = is_outcome outcome ≡ true

  abbrev Flows : Flow → Type 0
  Flows (Next t) = IsState t
  Flows (Skip t) = IsState t
  Flows (Enter body t) = AreLines fs body × IsState t
  Flows (Stop stop_point) = Stands stop_point

  opened_is : (b : Block) (t : State) → IsBlock b → IsState t → IsState (push_block b t)
  opened_is b t block is = record { variables = is.variables; blocks = (block, is.blocks); spawned = is.spawned; transaction = is.transaction }

  others_are : (bs : List Block) → AllByRecursion IsBlock bs → AllByRecursion IsBlock (outer_blocks bs)
  others_are [] all = tt
  others_are (b ∷ bs) all = all.1

  closed_is : (t : State) → IsState t → IsState (pop_block t)
  closed_is t is = record { variables = is.variables; blocks = others_are t.blocks is.blocks; spawned = is.spawned; transaction = is.transaction }

  set_is : (x : List ℕ) (v : Value) (t : State) → IsVal v → IsState t → IsState (set_variable x v t)
  set_is x v t value is = record { variables = put_has IsVal x v t.variables value is.variables; blocks = is.blocks; spawned = is.spawned; transaction = is.transaction }

  set_each_is : (xs : List (List ℕ)) (vs : List Value) (t : State) → AllByRecursion IsVal vs → IsState t → IsState (set_variables xs vs t)
  set_each_is [] vs t values is = is
  set_each_is (x ∷ xs) [] t values is = is
  set_each_is (x ∷ xs) (v ∷ vs) t values is = set_each_is xs vs (set_variable x v t) values.1 (set_is x v t values.0 is)

  -- What a line does.

  trap_flows : {X : Type 0} (P : X → Type 0) (r : Result X TrapKind) (f : X → Flow) → OkHas P r → ((x : X) → P x → Flows (f x)) → Flows (then_flow r f)
  trap_flows P (Ok x) f has all = all x has
  trap_flows P (Err t) f has all = refl

  branch_flows : (b : Bool) (x y : Flow) → Flows x → Flows y → Flows (cond b x y)
  branch_flows true x y one two = one
  branch_flows false x y one two = two

  always : {X : Type 0} (r : Result X TrapKind) → OkHas (λ _. Unit {0}) r
  always (Ok x) = tt
  always (Err t) = tt

  tested_flows : (test : Expr) (t : State) (f : Bool → Flow) → ((b : Bool) → Flows (f b)) → Flows (then_flow (and_then (eval test t.variables) as_condition) f)
  tested_flows test t f all = trap_flows (λ _. Unit {0}) (and_then (eval test t.variables) as_condition) f (always (and_then (eval test t.variables) as_condition)) (λ b _. all b)

  joins_flow : (x : List ℕ) (lines : List Stmt) (t : State) → AreLines fs lines → IsState t → (v : Value) → Flows (join_flow x lines t v)
  joins_flow x lines t are is (Int (pos n)) = at (leb 1 n && leb n t.spawned) refl
    where
      at : (b : Bool) → (leb 1 n && leb n t.spawned) ≡ b → Flows (cond b (stop_at (One x) lines t (o.Join n)) (stop_with_trap trap.Join))
      at true e =
          let parts = and_parts (leb 1 n) (leb n t.spawned) e in
          let one = leb-true 1 n parts.0 in
          let le = leb-true n t.spawned parts.1 in
          let most = is.spawned in
          (and_from (ltb 0 n) (ltb n 4096) (lt-ltb 0 n (omega (arith, one))) (lt-ltb n 4096 (omega (arith, le, most))), are, is)
      at false e = refl
  joins_flow x lines t are is _ = refl

  none_flows : (v : Value) (flow : Flow) → Flows flow → Flows (unless_none v flow)
  none_flows Nothing flow is = refl
  none_flows (Int m) flow is = is
  none_flows (Text m) flow is = is

  outside_flows : (names : Option (List (List ℕ))) (flow : Flow) → Flows flow → Flows (outside_transaction names flow)
  outside_flows None flow is = is
  outside_flows (Some names) flow is = refl

  inside_flows : (names : Option (List (List ℕ))) (f : List (List ℕ) → Flow) → IsTransaction names → ((x : List (List ℕ)) → are_names x ≡ true → Flows (f x)) → Flows (inside_transaction names f)
  inside_flows None f is all = refl
  inside_flows (Some names) f is all = all names is

  ends_flow : (bs : List Block) (t : State) → AllByRecursion IsBlock bs → IsState t → Flows (end_block bs t)
  ends_flow [] t all is = is
  ends_flow (Branch ∷ bs) t all is = closed_is t is
  ends_flow (Loop test body ∷ bs) t all is = tested_flows test t (λ b. cond b (Enter body t) (Next (pop_block t))) (λ b. branch_flows b (Enter body t) (Next (pop_block t)) (all.0.1, is) (closed_is t is))

  -- the expressions of a line, and its counts
  record HasParts (l : Stmt) : Type 0 where
    known : List (List ℕ)
    expressions_are : AllByRecursion (λ x. has_known_leaves known x ≡ true) (expressions l)
    counts : has_valid_counts fs l ≡ true

  each_known : (known : List (List ℕ)) (xs : List Expr) → list_all (is_expr known) xs ≡ true → AllByRecursion (λ x. has_known_leaves known x ≡ true) xs
  each_known known [] all = tt
  each_known known (x ∷ xs) all =
      let parts = and_parts (is_expr known x) (list_all (is_expr known) xs) all in
      ((and_parts (leb (operand_count x) 64 && leb (nesting_depth x) 32) (has_known_leaves known x) parts.0).1, each_known known xs parts.1)

  parts_of : (l : Stmt) → IsLine fs l → HasParts l
  parts_of l is =
      let counted = and_parts (list_all (is_expr is.0) (expressions l) && list_all is_identifier (variables_set l)) (has_valid_counts fs l) is.1 in
      record {
        known = is.0;
        expressions_are = each_known is.0 (expressions l) (and_parts (list_all (is_expr is.0) (expressions l)) (list_all is_identifier (variables_set l)) counted.0).0;
        counts = counted.1;
      }

  module _ (are : AreFunctions fs) where
    spawns_flow : (x f : List ℕ) (es : List Expr) (lines : List Stmt) (t : State) → has_arity (length es) (known_function fs (find f fs)) ≡ true → AreLines fs lines → IsState t → (args : List Value) → Values (length es) args → Flows (spawn_flow fs depth x f lines t args)
    spawns_flow x f es lines t fits lines_are is args values = at (eqb depth 4) refl (eqb (suc t.spawned) 4096) refl
      where
        arity : (o : Option ℕ) → has_arity (length es) (known_function fs o) ≡ true → has_arity (length args) (function_at (unwrap_or o 0) fs) ≡ true
        arity None fits = cc
        arity (Some n) fits = ap (λ k. has_arity k (function_at n fs)) values.1 ∙ fits

        below : eqb (suc t.spawned) 4096 ≡ false → is_ordinal (suc t.spawned) ≡ true
        below e =
            let not_all : suc t.spawned ≡ 4096 → ⊥ = eqb-false (suc t.spawned) 4096 e in
            let most = is.spawned in
            and_from (ltb 0 (suc t.spawned)) (ltb (suc t.spawned) 4096) (lt-ltb 0 (suc t.spawned) (omega arith)) (lt-ltb (suc t.spawned) 4096 (omega (arith, most, not_all)))

        at : (b : Bool) → eqb depth 4 ≡ b → (c : Bool) → eqb (suc t.spawned) 4096 ≡ c → Flows (cond (b || c) (stop_with_trap trap.Spawn) (stop_at (One x) lines t (o.Spawn (suc t.spawned) (unwrap_or (find f fs) 0) args)))
        at true d c e = refl
        at false d true e = refl
        at false d false e =
            let number = unwrap_or (find f fs) 0 in
            let fit = arity (find f fs) fits in
            let few_are : is_short_list args ≡ true = le-leb (length args) 8 (few_args fs are (length args) number fit) in (
              and_from (not (eqb depth 4) && is_ordinal (suc t.spawned) && has_arity (length args) (function_at number fs) && is_short_list args) (list_all is_value args)
                  (and_from (not (eqb depth 4) && is_ordinal (suc t.spawned) && has_arity (length args) (function_at number fs)) (is_short_list args)
                  (and_from (not (eqb depth 4) && is_ordinal (suc t.spawned)) (has_arity (length args) (function_at number fs))
                  (and_from (not (eqb depth 4)) (is_ordinal (suc t.spawned)) (ap not d) (below e)) fit) few_are) (all_of_each is_value args values.0),
              lines_are,
              is,
            )

    one_gives : (known : List (List ℕ)) (x : Expr) (t : State) → has_known_leaves known x ≡ true → IsState t → OkHas IsVal (eval x t.variables)
    one_gives known x t is state = eval_gives known x t.variables is state.variables

    -- the name that an expression gives
    name_in : (x : Expr) (t : State) → OkHas (λ n. is_name n ≡ true) (and_then (eval x t.variables) to_name)
    name_in x t = then_has (λ _. Unit {0}) (λ n. is_name n ≡ true) (eval x t.variables) to_name (always (eval x t.variables)) (λ v _. name_gives v)

    -- the names that several give
    names_in : (known : List (List ℕ)) (pairs : List (List ℕ × Expr)) (t : State) → AllByRecursion (λ x. has_known_leaves known x ≡ true) (pair_expressions pairs) → IsState t → OkHas (Names (length pairs)) (and_then (eval_all (pair_expressions pairs) t.variables) to_names)
    names_in known pairs t all is =
        then_has (Values (length (pair_expressions pairs))) (Names (length pairs)) (eval_all (pair_expressions pairs) t.variables) to_names (eval_all_gives known (pair_expressions pairs) t.variables all is.variables)
        (λ vs values. subst (λ n. OkHas (Names n) (to_names vs)) (values.1 ∙ seconds_length pairs) (names_give vs))

    left_give : (vs : List Value) → OkHas (λ ns. AllByRecursion (λ n. is_name n ≡ true) ns) (to_names (left_values vs))
    left_give vs = at (to_names (left_values vs)) (names_give (left_values vs))
      where
        at : (r : Result (List (List ℕ)) TrapKind) → OkHas (Names (length (left_values vs))) r → OkHas (λ ns. AllByRecursion (λ n. is_name n ≡ true) ns) r
        at (Ok ns) has = has.0
        at (Err why) has = tt

    execute_flows : (l : Stmt) (lines : List Stmt) (t : State) → HasParts l → AreLines fs lines → IsState t → Flows (execute fs depth l lines t)
    execute_flows (s.Let x e) lines t p all is = trap_flows IsVal (eval e t.variables) _ (one_gives p.known e t p.expressions_are.0 is) (λ v value. set_is x v t value is)
    execute_flows (s.Read x e) lines t p all is = trap_flows (λ n. is_name n ≡ true) (and_then (eval e t.variables) to_name) _ (name_in e t) (λ key name. (name, all, is))
    execute_flows (s.Write e f) lines t p all is =
        trap_flows IsVal (eval e t.variables) _ (one_gives p.known e t p.expressions_are.0 is)
        (λ m _. trap_flows IsVal (eval f t.variables) _ (one_gives p.known f t p.expressions_are.1.0 is)
        (λ v value. trap_flows (λ n. is_name n ≡ true) (to_name m) _ (name_gives m) (λ key name. (and_from (is_name key) (is_value v) name value, all, is))))
    execute_flows (s.Spawn x f es) lines t p all is =
        trap_flows (Values (length es)) (eval_all es t.variables) (spawn_flow fs depth x f lines t) (eval_all_gives p.known es t.variables p.expressions_are is.variables) (λ args values. spawns_flow x f es lines t p.counts all is args values)
    execute_flows (s.Join x e) lines t p all is = trap_flows (λ _. Unit {0}) (eval e t.variables) (join_flow x lines t) (always (eval e t.variables)) (λ v _. joins_flow x lines t all is v)
    execute_flows (s.Push e f) lines t p all is =
        trap_flows IsVal (eval e t.variables) _ (one_gives p.known e t p.expressions_are.0 is)
        (λ m _. trap_flows IsVal (eval f t.variables) _ (one_gives p.known f t p.expressions_are.1.0 is)
        (λ v value. trap_flows (λ n. is_name n ≡ true) (to_name m) _ (name_gives m) (λ queue name. none_flows v (stop_at Nowhere lines t (o.Push queue v)) (and_from (is_name queue) (is_value v) name value, all, is))))
    execute_flows (s.Pop x e) lines t p all is = trap_flows (λ n. is_name n ≡ true) (and_then (eval e t.variables) to_name) _ (name_in e t) (λ queue name. (name, all, is))
    execute_flows (s.Begin pairs) lines t p all is =
        trap_flows (Names (length pairs)) (and_then (eval_all (pair_expressions pairs) t.variables) to_names) _ (names_in p.known pairs t p.expressions_are is)
        (λ names named. outside_flows t.transaction (stop_at (Each (pair_names pairs)) lines t (o.Begin names)) (some_are (length pairs) names p.counts named, all, is))
    execute_flows (s.Commit x pairs) lines t p all is =
        trap_flows (Values (length (both_sides pairs))) (eval_all (both_sides pairs) t.variables) _ (eval_all_gives p.known (both_sides pairs) t.variables p.expressions_are is.variables)
        (λ vs values. trap_flows (λ ns. AllByRecursion (λ n. is_name n ≡ true) ns) (to_names (left_values vs)) _ (left_give vs)
        (λ ns named. inside_flows t.transaction (λ read. stop_at (One x) lines t (o.Commit read (pair_writes ns vs))) is.transaction (λ read names. (
          and_from (are_names read && is_short_list (pair_writes ns vs)) (list_all is_store_write (pair_writes ns vs))
              (and_from (are_names read) (is_short_list (pair_writes ns vs)) names
              (le-leb (length (pair_writes ns vs)) 8 (let few_pairs = leb-true (length pairs) 8 p.counts in let twice = sides_length pairs in let fewer = paired_few ns vs in let as_many = values.1 in omega (arith, few_pairs, twice, fewer, as_many))))
              (all_of_each is_store_write (pair_writes ns vs) (paired_are ns vs named values.0)),
          all,
          is,
        ))))
    execute_flows (s.If e) lines t p all is = tested_flows e t _ (λ b. branch_flows b (Next (push_block Branch t)) (Skip t) (opened_is Branch t tt is) is)
    execute_flows s.Else lines t p all is = closed_is t is
    execute_flows (s.While e) lines t p all is =
        tested_flows e t _ (λ b. branch_flows b (Enter lines (push_block (Loop e lines) t)) (Skip t) (all, opened_is (Loop e lines) t ((p.known, p.expressions_are.0), all) is) is)
    execute_flows s.End lines t p all is = ends_flow t.blocks t is.blocks is
    execute_flows (s.Return e) lines t p all is = trap_flows IsVal (eval e t.variables) _ (one_gives p.known e t p.expressions_are.0 is) (λ v value. value)
    execute_flows (s.ReadAll pairs) lines t p all is =
        trap_flows (Names (length pairs)) (and_then (eval_all (pair_expressions pairs) t.variables) to_names) _ (names_in p.known pairs t p.expressions_are is)
        (λ keys named. (some_are (length pairs) keys p.counts named, all, is))

    go_stands : (inner : List Stmt → State → StopPoint) → ((body : List Stmt) (t : State) → AreLines fs body → IsState t → Stands (inner body t)) → (skipping : Option ℕ) (lines : List Stmt) (t : State) → AreLines fs lines → IsState t → Stands (execute_from fs depth inner skipping lines t)
    go_stands inner all skipping [] t lines is = refl
    go_stands inner all None (l ∷ ls) t lines is =
        at (execute fs depth l ls t) (execute_flows l ls t (parts_of l lines.0) lines.1 is) (λ u is. go_stands inner all None ls u lines.1 is) (λ u is. go_stands inner all (Some 0) ls u lines.1 is)
      where
        at : (flow : Flow) → Flows flow → ((u : State) → IsState u → Stands (execute_from fs depth inner None ls u)) → ((u : State) → IsState u → Stands (execute_from fs depth inner (Some 0) ls u))
            → Stands (elim flow [ Next u ↦ execute_from fs depth inner None ls u | Skip u ↦ execute_from fs depth inner (Some 0) ls u | Enter body u ↦ inner body u | Stop stop_point ↦ stop_point ])
        at (Next u) is next skip = next u is
        at (Skip u) is next skip = skip u is
        at (Enter body u) is next skip = all body u is.0 is.1
        at (Stop stop_point) is next skip = is
    go_stands inner all (Some m) (l ∷ ls) t lines is = at (skip_line m l) (λ u is. go_stands inner all None ls u lines.1 is) (λ j. go_stands inner all (Some j) ls t lines.1 is)
      where
        at : (p : Skipped) → ((u : State) → IsState u → Stands (execute_from fs depth inner None ls u)) → ((j : ℕ) → Stands (execute_from fs depth inner (Some j) ls t))
            → Stands (elim p [ BlockEnds ↦ execute_from fs depth inner None ls t | ElseBegins ↦ execute_from fs depth inner None ls (push_block Branch t) | SkipsOn j ↦ execute_from fs depth inner (Some j) ls t ])
        at BlockEnds next skip = next t is
        at ElseBegins next skip = next (push_block Branch t) (opened_is Branch t tt is)
        at (SkipsOn j) next skip = skip j

    enter_stands : (left : ℕ) (body : List Stmt) (t : State) → AreLines fs body → IsState t → Stands (enter_body fs depth left body t)
    enter_stands zero body t lines is = refl
    enter_stands (suc left) body t lines is = go_stands (enter_body fs depth left) (enter_stands left) None body t lines is

    run_stands : (lines : List Stmt) (t : State) → AreLines fs lines → IsState t → Stands (run_script fs depth lines t)
    run_stands lines t all is = go_stands (enter_body fs depth entries) (enter_stands entries) None lines t all is

    -- An answer.

    set_target_is : (target : Target) (v : Value) (t : State) → IsVal v → IsState t → IsState (set_target target v t)
    set_target_is (One x) v t value is = set_is x v t value is
    set_target_is Nowhere v t value is = is
    set_target_is (Each xs) v t value is = is

    set_targets_is : (target : Target) (vs : List Value) (t : State) → list_all is_value vs ≡ true → IsState t → IsState (set_targets target vs t)
    set_targets_is (Each xs) vs t values is = set_each_is xs vs t (each_of is_value vs values) is
    set_targets_is Nowhere vs t values is = is
    set_targets_is (One x) vs t values is = is

    abbrev Answered : Option (Result State TrapKind) → Type 0
    Answered r = SomeHas (OkHas IsState) r

    if_answered : (b : Bool) (t : State) → (b ≡ true → IsState t) → Answered (cond b (Some (Ok t)) None)
    if_answered true t is = is refl
    if_answered false t is = tt

    joined_is : (target : Target) (outcome : Outcome) (t : State) → is_outcome outcome ≡ true → IsState t → OkHas IsState (set_joined target outcome t)
    joined_is target (Good v) t value is = set_target_is target v t value is
    joined_is target (Trap why) t value is = tt

    -- with so many children, or another transaction
    with_children : (n : ℕ) (t : State) → n ≤ 4095 → IsState t → IsState (record t { spawned = n })
    with_children n t le is = record { variables = is.variables; blocks = is.blocks; spawned = le; transaction = is.transaction }

    with_transaction : (names : Option (List (List ℕ))) (t : State) → IsTransaction names → IsState t → IsState (record t { transaction = names })
    with_transaction names t some is = record { variables = is.variables; blocks = is.blocks; spawned = is.spawned; transaction = some }

    ordinal_small : (n : ℕ) → is_ordinal n ≡ true → n ≤ 4095
    ordinal_small n is = let lt = ltb-true n 4096 (and_parts (ltb 0 n) (ltb n 4096) is).1 in omega (arith, lt)

    answered_is : (op : Op) (target : Target) (x : Answer) (t : State) → is_op fs depth op ≡ true → is_answer x ≡ true → IsState t → Answered (apply_answer op target x t)
    answered_is (o.Read key) target (a.Value v) t op value is = set_target_is target v t value is
    answered_is (o.Write key value) target a.Done t op _ is = is
    answered_is (o.Spawn ordinal f args) target (a.Spawned m) t op good is =
        let small = ordinal_small m good in
        if_answered (eqb m ordinal) (record (set_target target (Int (pos m)) t) { spawned = m }) (λ e. with_children m (set_target target (Int (pos m)) t) small (set_target_is target (Int (pos m)) t (mag_fits (pos m) (omega (arith, small))) is))
    answered_is (o.Join ordinal) target (a.Joined outcome) t op good is = joined_is target outcome t good is
    answered_is (o.Push queue value) target a.Done t op _ is = is
    answered_is (o.Pop queue) target (a.Value v) t op value is = set_target_is target v t value is
    answered_is (o.Begin names) target (a.Values vs) t op values is =
        if_answered (eqb (length vs) (length names)) (record (set_targets target vs t) { transaction = Some names }) (λ e. with_transaction (Some names) (set_targets target vs t) op (set_targets_is target vs t values is))
    answered_is (o.Commit names writes) target (a.Committed good) t op _ is = with_transaction None (set_target target (bool_value good) t) tt (set_target_is target (bool_value good) t (truth_val good) is)
    answered_is (o.ReadGroup keys) target (a.Values vs) t op values is = if_answered (eqb (length vs) (length keys)) (set_targets target vs t) (λ e. set_targets_is target vs t values is)
    answered_is _ target _ t op _ is = tt

    continued_stands : (lines : List Stmt) (r : Option (Result State TrapKind)) → AreLines fs lines → Answered r → SomeHas Stands (option_map (continue_after fs depth lines) r)
    continued_stands lines None all is = tt
    continued_stands lines (Some (Ok t)) all is = run_stands lines t all is
    continued_stands lines (Some (Err why)) all is = refl

    resume_stands : (x : Answer) (st : Option StopPoint) → is_answer x ≡ true → SomeHas Stands st → SomeHas Stands (option_and_then (resume fs depth x) st)
    resume_stands x None good is = tt
    resume_stands x (Some (AtOperation op target lines t)) good is = continued_stands lines (apply_answer op target x t) is.1 (answered_is op target x t is.0 good is.2)
    resume_stands x (Some (AtEnd outcome)) good is = tt

    begins_stand : (args : List Value) (f : Option Function) → AllByRecursion IsVal args → SomeHas (IsFunction fs) f → SomeHas Stands (start_function fs depth args f)
    begins_stand args None values has = tt
    begins_stand args (Some f) values has = at (eqb (length f.params) (length args))
      where
        at : (b : Bool) → SomeHas Stands (cond b (Some (run_script fs depth f.lines (initial_state f.params args))) None)
        at true =
            run_stands f.lines (initial_state f.params args) has.lines
            (set_each_is f.params args (record { variables = []; blocks = []; spawned = 0; transaction = None }) values (record { variables = tt; blocks = tt; spawned = omega arith; transaction = tt }))
        at false = tt

    stands : (f : ℕ) (args : List Value) (answers : List Answer) → AllByRecursion IsVal args → AllByRecursion (λ x. is_answer x ≡ true) answers → SomeHas Stands (stop_point fs f args depth answers)
    stands f args [] values all = begins_stand args (function_at f fs) values (function_is fs are f)
    stands f args (x ∷ xs) values all = resume_stands x (stop_point fs f args depth xs) all.0 (stands f args xs values all.1)

    asked_is : (st : Option StopPoint) → SomeHas Stands st → SomeHas (λ ask. is_ask fs depth ask ≡ true) (option_map ask_of st)
    asked_is None is = tt
    asked_is (Some (AtOperation op target lines t)) is = is.0
    asked_is (Some (AtEnd outcome)) is = is

    -- what is asked, if anything is
    pub ask_is : (f : ℕ) (args : List Value) (answers : List Answer) → list_all is_value args ≡ true → list_all is_answer answers ≡ true → SomeHas (λ ask. is_ask fs depth ask ≡ true) (next_ask fs f args depth answers)
    ask_is f args answers values all = asked_is (stop_point fs f args depth answers) (stands f args answers (each_of is_value args values) (each_of is_answer answers all))

pub asks_are_ranged : AsksAreRanged
asks_are_ranged fs f args depth answers ask are values all is = some_has (λ ask. is_ask fs depth ask ≡ true) (next_ask fs f args depth answers) ask (ask_is fs depth are f args answers values all) is
