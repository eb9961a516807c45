-- What a script asks at a depth: it spawns and joins children that have a path.
use Rattle.std.proofs.Common.{◌≡◌, ℕ, zero, suc, ◌≤◌, ◌<◌, Bool, true, false, cond, eqb, leb, ltb, ◌&&◌, ◌||◌, List, [], ◌∷◌, ◌++◌, length, Option, Some, None, option_map, Result, Ok, Err, refl, sym, ap, ◌∙◌, subst, arith}
use Rattle.std.specs.Prelude.{pos, option_and_then, unwrap_or}
use Rattle.std.proofs.lemmas.Bool.{eqb-true, eq-eqb}
use Rattle.std.proofs.lemmas.Bool.Decides.{nat_tests}
use Rattle.lb_base.specs.Path.{IsPath, is_request, are_ordinals, is_ordinal, child_path}
use Rattle.lb_base.specs.declared.value.Value.{Value}
use Rattle.lb_base.specs.declared.value.Value.TheVariants.{Int, Text, Nothing}
use Rattle.lb_base.specs.declared.value.TrapKind.{TrapKind}
use Rattle.lb_base.specs.declared.value.TrapKind.TheVariants as trap
use Rattle.lb_base.specs.declared.value.Outcome.{Outcome}
use Rattle.lb_base.specs.declared.value.Outcome.TheVariants.{Good, Trap}
use Rattle.boki_types.specs.declared.program.Stmt.{Stmt}
use Rattle.boki_types.specs.declared.program.Stmt.TheVariants as s
use Rattle.boki_types.specs.declared.program.Function.{Function}
use Rattle.boki_types.specs.declared.operation.Op.{Op}
use Rattle.boki_types.specs.declared.operation.Op.TheVariants as o
use Rattle.boki_types.specs.declared.operation.Ask.TheVariants as k
use Rattle.boki_types.specs.declared.operation.Answer.{Answer}
use Rattle.boki_types.specs.declared.operation.Answer.TheVariants as a
use Rattle.boki_types.specs.Finding.{find, function_at}
use Rattle.boki_model.specs.Bodies.{child}
use Rattle.boki_model.specs.Values.{and_then, bool_value, as_condition, eval, eval_all, to_name, to_names}
use Rattle.boki_model.specs.Script.{Block, Branch, Loop, State, Target, Nowhere, One, Each, StopPoint, AtOperation, AtEnd, Flow, Next, Skip, Enter, Stop, set_variable, set_variables, push_block, pop_block, then_flow, stop_at, stop_with_trap, unless_none, outside_transaction, inside_transaction, spawn_flow, join_flow, pair_writes, pair_names, pair_expressions, both_sides, left_values, end_block, execute, Skipped, BlockEnds, ElseBegins, SkipsOn, skip_line, execute_from, enter_body, entries, run_script, initial_state, start_function, set_target, set_targets, set_joined, apply_answer, continue_after, resume, stop_point, ask_of, next_ask}

-- so many children may be spawned: none by the deepest
pub record IsFew (depth n : ℕ) : Type 0 where
  pub few : n < 4096
  pub deepest : depth ≡ 4 → n ≡ 0

-- the ordinal of a child that has a path
pub record HasPath (depth ordinal : ℕ) : Type 0 where
  pub above : 0 < ordinal
  pub below : ordinal < 4096
  pub shallow : depth ≡ 4 → ⊥

abbrev pub IsRight : ℕ → Op → Type 0
IsRight depth (o.Spawn ordinal f args) = HasPath depth ordinal
IsRight depth (o.Join ordinal) = HasPath depth ordinal
IsRight depth _ = Unit {0}

module _ (fs : List Function) (depth : ℕ) where
  abbrev IsAt : State → Type 0
  IsAt t = IsFew depth t.spawned

  abbrev Stands : StopPoint → Type 0
  Stands (AtOperation op target lines t) = IsAt t × IsRight depth op
  Stands (AtEnd outcome) = Unit {0}

  abbrev Flows : Flow → Type 0
  Flows (Next t) = IsAt t
  Flows (Skip t) = IsAt t
  Flows (Enter body t) = IsAt t
  Flows (Stop stop_point) = Stands stop_point

  trap_flows : {X : Type 0} (r : Result X TrapKind) (f : X → Flow) → ((x : X) → Flows (f x)) → Flows (then_flow r f)
  trap_flows (Ok x) f all = all x
  trap_flows (Err t) f all = tt

  branch_flows : (b : Bool) (x y : Flow) → Flows x → Flows y → Flows (cond b x y)
  branch_flows true x y one two = one
  branch_flows false x y one two = two

  spawns_flow : (x f : List ℕ) (lines : List Stmt) (t : State) → IsAt t → (args : List Value) → Flows (spawn_flow fs depth x f lines t args)
  spawns_flow x f lines t is args = at (eqb depth 4) refl (eqb (suc t.spawned) 4096) refl
    where
      at : (b : Bool) → eqb depth 4 ≡ b → (c : Bool) → eqb (suc t.spawned) 4096 ≡ c → Flows (cond (b || c) (stop_with_trap trap.Spawn) (stop_at (One x) lines t (o.Spawn (suc t.spawned) (unwrap_or (find f fs) 0) args)))
      at true d c e = tt
      at false d true e = tt
      at false d false e = (
        is,
        record {
          above = omega arith;
          below = (let h = is.few in let other : suc t.spawned ≡ 4096 → ⊥ = (λ z. let yes : eqb (suc t.spawned) 4096 ≡ true = eq-eqb (suc t.spawned) 4096 z in let no_way : ⊥ = cc in no_way) in omega (arith, h, other));
          shallow = λ h. let yes : eqb depth 4 ≡ true = eq-eqb depth 4 h in let no_way : ⊥ = cc in no_way;
        },
      )

  joins_flow : (x : List ℕ) (lines : List Stmt) (t : State) → IsAt t → (v : Value) → Flows (join_flow x lines t v)
  joins_flow x lines t is (Int (pos m)) = at (leb 1 m) refl (leb m t.spawned) refl
    where
      at : (b : Bool) → leb 1 m ≡ b → (c : Bool) → leb m t.spawned ≡ c → Flows (cond (b && c) (stop_at (One x) lines t (o.Join m)) (stop_with_trap trap.Join))
      at false d c e = tt
      at true d false e = tt
      at true d true e =
          let above : 1 ≤ m = grind (arith, nat_tests) in
          let below : m ≤ t.spawned = grind (arith, nat_tests) in (
            is,
            record {
              above = omega (arith, above);
              below = (let h = is.few in omega (arith, below, h));
              shallow = λ h. let none = is.deepest h in let z : ⊥ = omega (arith, above, below, none) in z;
            },
          )
  joins_flow x lines t is _ = tt

  none_flows : (v : Value) (flow : Flow) → Flows flow → Flows (unless_none v flow)
  none_flows Nothing flow is = tt
  none_flows (Int m) flow is = is
  none_flows (Text m) flow is = is

  outside_flows : (names : Option (List (List ℕ))) (flow : Flow) → Flows flow → Flows (outside_transaction names flow)
  outside_flows None flow is = is
  outside_flows (Some names) flow is = tt

  inside_flows : (names : Option (List (List ℕ))) (f : List (List ℕ) → Flow) → ((x : List (List ℕ)) → Flows (f x)) → Flows (inside_transaction names f)
  inside_flows None f all = tt
  inside_flows (Some names) f all = all names

  ends_flow : (bs : List Block) (t : State) → IsAt t → Flows (end_block bs t)
  ends_flow [] t is = is
  ends_flow (Branch ∷ bs) t is = is
  ends_flow (Loop test body ∷ bs) t is = trap_flows (and_then (eval test t.variables) as_condition) (λ b. cond b (Enter body t) (Next (pop_block t))) (λ b. branch_flows b (Enter body t) (Next (pop_block t)) is is)

  execute_flows : (l : Stmt) (lines : List Stmt) (t : State) → IsAt t → Flows (execute fs depth l lines t)
  execute_flows (s.Let x e) lines t is = trap_flows (eval e t.variables) _ (λ v. is)
  execute_flows (s.Read x e) lines t is = trap_flows (and_then (eval e t.variables) to_name) _ (λ key. (is, tt))
  execute_flows (s.Write e f) lines t is = trap_flows (eval e t.variables) _ (λ m. trap_flows (eval f t.variables) _ (λ v. trap_flows (to_name m) _ (λ key. (is, tt))))
  execute_flows (s.Spawn x f es) lines t is = trap_flows (eval_all es t.variables) (spawn_flow fs depth x f lines t) (λ args. spawns_flow x f lines t is args)
  execute_flows (s.Join x e) lines t is = trap_flows (eval e t.variables) (join_flow x lines t) (λ v. joins_flow x lines t is v)
  execute_flows (s.Push e f) lines t is = trap_flows (eval e t.variables) _ (λ m. trap_flows (eval f t.variables) _ (λ v. trap_flows (to_name m) _ (λ queue. none_flows v (stop_at Nowhere lines t (o.Push queue v)) (is, tt))))
  execute_flows (s.Pop x e) lines t is = trap_flows (and_then (eval e t.variables) to_name) _ (λ queue. (is, tt))
  execute_flows (s.Begin pairs) lines t is = trap_flows (and_then (eval_all (pair_expressions pairs) t.variables) to_names) _ (λ names. outside_flows t.transaction (stop_at (Each (pair_names pairs)) lines t (o.Begin names)) (is, tt))
  execute_flows (s.Commit x pairs) lines t is = trap_flows (eval_all (both_sides pairs) t.variables) _ (λ vs. trap_flows (to_names (left_values vs)) _ (λ ns. inside_flows t.transaction (λ read. stop_at (One x) lines t (o.Commit read (pair_writes ns vs))) (λ read. (is, tt))))
  execute_flows (s.If e) lines t is = trap_flows (and_then (eval e t.variables) as_condition) _ (λ b. branch_flows b (Next (push_block Branch t)) (Skip t) is is)
  execute_flows s.Else lines t is = is
  execute_flows (s.While e) lines t is = trap_flows (and_then (eval e t.variables) as_condition) _ (λ b. branch_flows b (Enter lines (push_block (Loop e lines) t)) (Skip t) is is)
  execute_flows s.End lines t is = ends_flow t.blocks t is
  execute_flows (s.Return e) lines t is = trap_flows (eval e t.variables) _ (λ v. tt)
  execute_flows (s.ReadAll pairs) lines t is = trap_flows (and_then (eval_all (pair_expressions pairs) t.variables) to_names) (λ keys. stop_at (Each (pair_names pairs)) lines t (o.ReadGroup keys)) (λ keys. (is, tt))

  go_stands : (inner : List Stmt → State → StopPoint) → ((body : List Stmt) (t : State) → IsAt t → Stands (inner body t)) → (skipping : Option ℕ) (lines : List Stmt) (t : State) → IsAt t → Stands (execute_from fs depth inner skipping lines t)
  go_stands inner all skipping [] t is = tt
  go_stands inner all None (l ∷ ls) t is = at (execute fs depth l ls t) (execute_flows l ls t is) (λ u is. go_stands inner all None ls u is) (λ u is. go_stands inner all (Some 0) ls u is)
    where
      at : (flow : Flow) → Flows flow → ((u : State) → IsAt u → Stands (execute_from fs depth inner None ls u)) → ((u : State) → IsAt u → Stands (execute_from fs depth inner (Some 0) ls u))
          → Stands (elim flow [ Next u ↦ execute_from fs depth inner None ls u | Skip u ↦ execute_from fs depth inner (Some 0) ls u | Enter body u ↦ inner body u | Stop stop_point ↦ stop_point ])
      at (Next u) is next skip = next u is
      at (Skip u) is next skip = skip u is
      at (Enter body u) is next skip = all body u is
      at (Stop stop_point) is next skip = is
  go_stands inner all (Some m) (l ∷ ls) t is = at (skip_line m l) (λ u is. go_stands inner all None ls u is) (λ j. go_stands inner all (Some j) ls t is)
    where
      at : (p : Skipped) → ((u : State) → IsAt u → Stands (execute_from fs depth inner None ls u)) → ((j : ℕ) → Stands (execute_from fs depth inner (Some j) ls t))
          → Stands (elim p [ BlockEnds ↦ execute_from fs depth inner None ls t | ElseBegins ↦ execute_from fs depth inner None ls (push_block Branch t) | SkipsOn j ↦ execute_from fs depth inner (Some j) ls t ])
      at BlockEnds next skip = next t is
      at ElseBegins next skip = next (push_block Branch t) is
      at (SkipsOn j) next skip = skip j

  enter_stands : (left : ℕ) (body : List Stmt) (t : State) → IsAt t → Stands (enter_body fs depth left body t)
  enter_stands zero body t is = tt
  enter_stands (suc left) body t is = go_stands (enter_body fs depth left) (enter_stands left) None body t is

  run_stands : (lines : List Stmt) (t : State) → IsAt t → Stands (run_script fs depth lines t)
  run_stands lines t is = go_stands (enter_body fs depth entries) (enter_stands entries) None lines t is

-- An answer.

set_each_kept : (xs : List (List ℕ)) (vs : List Value) (t : State) → (set_variables xs vs t).spawned ≡ t.spawned
set_each_kept [] vs t = refl
set_each_kept (x ∷ xs) [] t = refl
set_each_kept (x ∷ xs) (v ∷ vs) t = set_each_kept xs vs (set_variable x v t)

set_target_kept : (target : Target) (v : Value) (t : State) → (set_target target v t).spawned ≡ t.spawned
set_target_kept (One x) v t = refl
set_target_kept Nowhere v t = refl
set_target_kept (Each xs) v t = refl

set_targets_kept : (target : Target) (vs : List Value) (t : State) → (set_targets target vs t).spawned ≡ t.spawned
set_targets_kept (Each xs) vs t = set_each_kept xs vs t
set_targets_kept Nowhere vs t = refl
set_targets_kept (One x) vs t = refl

module _ (fs : List Function) (depth : ℕ) where
  abbrev ResultIs : Result State TrapKind → Type 0
  ResultIs (Ok t) = IsFew depth t.spawned
  ResultIs (Err why) = Unit {0}

  abbrev AnsweredIs : Option (Result State TrapKind) → Type 0
  AnsweredIs None = Unit {0}
  AnsweredIs (Some r) = ResultIs r

  if_is : (b : Bool) (r : Result State TrapKind) → (b ≡ true → ResultIs r) → AnsweredIs (cond b (Some r) None)
  if_is true r is = is refl
  if_is false r is = tt

  kept : (m n : ℕ) → n ≡ m → IsFew depth m → IsFew depth n
  kept m n e few = subst (IsFew depth) (sym e) few

  joined_is : (target : Target) (outcome : Outcome) (t : State) → IsFew depth t.spawned → ResultIs (set_joined target outcome t)
  joined_is target (Good v) t few = kept t.spawned _ (set_target_kept target v t) few
  joined_is target (Trap why) t few = tt

  answered_is : (op : Op) (target : Target) (x : Answer) (t : State) → IsFew depth t.spawned → IsRight depth op → AnsweredIs (apply_answer op target x t)
  answered_is (o.Read key) target (a.Value v) t few right = kept t.spawned _ (set_target_kept target v t) few
  answered_is (o.Write key value) target a.Done t few right = few
  answered_is (o.Spawn ordinal f args) target (a.Spawned m) t few right =
      if_is (eqb m ordinal) _ (λ e. let same : m ≡ ordinal = eqb-true m ordinal e in record {
        few = (let h = right.below in omega (arith, same, h));
        deepest = λ d. absurd (right.shallow d);
      })
  answered_is (o.Join ordinal) target (a.Joined outcome) t few right = joined_is target outcome t few
  answered_is (o.Push queue value) target a.Done t few right = few
  answered_is (o.Pop queue) target (a.Value v) t few right = kept t.spawned _ (set_target_kept target v t) few
  answered_is (o.Begin names) target (a.Values vs) t few right = if_is (eqb (length vs) (length names)) _ (λ e. kept t.spawned _ (set_targets_kept target vs t) few)
  answered_is (o.Commit names writes) target (a.Committed good) t few right = kept t.spawned _ (set_target_kept target (bool_value good) t) few
  answered_is (o.ReadGroup keys) target (a.Values vs) t few right = if_is (eqb (length vs) (length keys)) _ (λ e. kept t.spawned _ (set_targets_kept target vs t) few)
  answered_is _ target _ t few right = tt

  abbrev Well : Option StopPoint → Type 0
  Well None = Unit {0}
  Well (Some stop_point) = Stands fs depth stop_point

  continued_well : (lines : List Stmt) (r : Option (Result State TrapKind)) → AnsweredIs r → Well (option_map (continue_after fs depth lines) r)
  continued_well lines None is = tt
  continued_well lines (Some (Ok t)) is = run_stands fs depth lines t is
  continued_well lines (Some (Err why)) is = tt

  resume_well : (x : Answer) (was : Option StopPoint) → Well was → Well (option_and_then (resume fs depth x) was)
  resume_well x None is = tt
  resume_well x (Some (AtEnd outcome)) is = tt
  resume_well x (Some (AtOperation op target lines t)) is = continued_well lines (apply_answer op target x t) (answered_is op target x t is.0 is.1)

  begins_well : (args : List Value) (f : Option Function) → Well (start_function fs depth args f)
  begins_well args None = tt
  begins_well args (Some f) = at (eqb (length f.params) (length args))
    where
      at : (b : Bool) → Well (cond b (Some (run_script fs depth f.lines (initial_state f.params args))) None)
      at true = run_stands fs depth f.lines (initial_state f.params args) (kept 0 _ (set_each_kept f.params args _) (record { few = omega arith; deepest = λ d. refl }))
      at false = tt

  standing_well : (f : ℕ) (args : List Value) (answers : List Answer) → Well (stop_point fs f args depth answers)
  standing_well f args [] = begins_well args (function_at f fs)
  standing_well f args (x ∷ xs) = resume_well x (stop_point fs f args depth xs) (standing_well f args xs)

  -- what is asked is right
  pub asked_right : (f : ℕ) (args : List Value) (answers : List Answer) (op : Op) → next_ask fs f args depth answers ≡ Some (k.Op op) → IsRight depth op
  asked_right f args answers op is = at (stop_point fs f args depth answers) (standing_well f args answers) is
    where
      at : (w : Option StopPoint) → Well w → option_map ask_of w ≡ Some (k.Op op) → IsRight depth op
      at None well is = absurd (let z : ⊥ = cc in z)
      at (Some (AtEnd outcome)) well is = absurd (let z : ⊥ = cc in z)
      at (Some (AtOperation p target lines t)) well is = subst (IsRight depth) (let e : p ≡ op = cc in e) well.1

-- a path has at most four numbers
pub path_is_short : (path : List ℕ) → IsPath path → length path ≤ 4
path_is_short [] is = omega arith
path_is_short (n ∷ ns) is = at (is_request n && are_ordinals ns) (ltb (length ns) 4) refl is
  where
    at : (b c : Bool) → ltb (length ns) 4 ≡ c → (b && c) ≡ true → suc (length ns) ≤ 4
    at b true e is = let h : length ns < 4 = grind (arith, nat_tests) in omega (arith, h)
    at true false e is = absurd (let z : ⊥ = cc in z)
    at false false e is = absurd (let z : ⊥ = cc in z)

-- a child that has a path has one
pub child_is : (path : List ℕ) (ordinal : ℕ) → IsPath path → HasPath (length path) ordinal → child_path path ordinal ≡ Some (child path ordinal)
child_is path ordinal is has =
    ap (λ b. cond b (Some (path ++ ordinal ∷ [])) None)
    (let up : ltb 0 ordinal ≡ true = (let h = has.above in grind (arith, nat_tests)) in
    let down : ltb ordinal 4096 ≡ true = (let h = has.below in grind (arith, nat_tests)) in
    let short : ltb (length path) 4 ≡ true = (let h = path_is_short path is in let other = has.shallow in let less : length path < 4 = omega (arith, h, other) in grind (arith, nat_tests)) in
    ap (λ b. (b && ltb ordinal 4096) && ltb (length path) 4) up ∙ ap (λ b. (true && b) && ltb (length path) 4) down ∙ short)

-- the deepest have no child
pub deepest_has_none : (path : List ℕ) (ordinal : ℕ) → length path ≡ 4 → None ≡ child_path path ordinal
deepest_has_none path ordinal deep =
    at (is_ordinal ordinal) ∙ ap (λ n. cond (is_ordinal ordinal && ltb n 4) (Some (path ++ ordinal ∷ [])) None) (sym deep)
  where
    at : (b : Bool) → None ≡ cond (b && ltb 4 4) (Some (path ++ ordinal ∷ [])) None
    at true = refl
    at false = refl

-- what is the path of a child
pub child_of_is : (path c : List ℕ) (ordinal : ℕ) → child_path path ordinal ≡ Some c → c ≡ child path ordinal
child_of_is path c ordinal is = at (is_ordinal ordinal && ltb (length path) 4) is
  where
    at : (b : Bool) → cond b (Some (path ++ ordinal ∷ [])) None ≡ Some c → c ≡ path ++ ordinal ∷ []
    at true e = let same : path ++ ordinal ∷ [] ≡ c = cc in sym same
    at false e = absurd (let z : ⊥ = cc in z)
