-- A script numbers its children: the ordinal that it asks a spawn with is one more than the number of spawns that were answered.
use Rattle.std.proofs.Common.{◌≡◌, ℕ, zero, suc, ◌+◌, Bool, true, false, cond, eqb, leb, ◌&&◌, ◌||◌, List, [], ◌∷◌, length, Option, Some, None, option_map, Result, Ok, Err, refl, ap, ◌∙◌, subst, arith}
use Rattle.std.specs.Prelude.{pos, option_and_then, unwrap_or}
use Rattle.std.proofs.lemmas.Bool.{eqb-true}
use Rattle.lb_base.specs.declared.value.Value.{Value}
use Rattle.lb_base.specs.declared.value.Value.TheVariants.{Int, Text, Nothing}
use Rattle.lb_base.specs.declared.value.TrapKind.{TrapKind}
use Rattle.lb_base.specs.declared.value.TrapKind.TheVariants as trap
use Rattle.lb_base.specs.declared.value.Outcome.{Outcome}
use Rattle.lb_base.specs.declared.value.Outcome.TheVariants.{Good, Trap}
use Rattle.boki_types.specs.declared.program.Stmt.{Stmt}
use Rattle.boki_types.specs.declared.program.Stmt.TheVariants as s
use Rattle.boki_types.specs.declared.program.Function.{Function}
use Rattle.boki_types.specs.declared.operation.Op.{Op}
use Rattle.boki_types.specs.declared.operation.Op.TheVariants as o
use Rattle.boki_types.specs.declared.operation.Ask.TheVariants as k
use Rattle.boki_types.specs.declared.operation.Answer.{Answer}
use Rattle.boki_types.specs.declared.operation.Answer.TheVariants as a
use Rattle.boki_types.specs.Finding.{find, function_at}
use Rattle.boki_model.specs.Values.{and_then, as_condition, eval, eval_all, to_name, to_names}
use Rattle.boki_model.specs.Script.{Block, Branch, Loop, State, Target, Nowhere, One, Each, StopPoint, AtOperation, AtEnd, Flow, Next, Skip, Enter, Stop, set_variable, set_variables, push_block, pop_block, then_flow, stop_at, stop_with_trap, unless_none, outside_transaction, inside_transaction, spawn_flow, join_flow, pair_writes, pair_names, pair_expressions, both_sides, left_values, end_block, execute, Skipped, BlockEnds, ElseBegins, SkipsOn, skip_line, execute_from, enter_body, entries, run_script, initial_state, start_function, set_target, set_targets, set_joined, apply_answer, continue_after, resume, stop_point, ask_of, next_ask}

-- how many spawns were answered
abbrev pub is_spawned : Answer → ℕ
is_spawned (a.Spawned n) = 1
is_spawned _ = 0

abbrev pub spawned_in : List Answer → ℕ
spawned_in [] = 0
spawned_in (x ∷ xs) = is_spawned x + spawned_in xs

abbrev pub AsksNext : ℕ → Op → Type 0
AsksNext n (o.Spawn ordinal f args) = ordinal ≡ suc n
AsksNext n _ = Unit {0}

-- a script that has spawned n children stands so
abbrev Counts : ℕ → StopPoint → Type 0
Counts n (AtOperation op target lines t) = (t.spawned ≡ n) × AsksNext n op
Counts n (AtEnd outcome) = Unit {0}

abbrev FlowCounts : ℕ → Flow → Type 0
FlowCounts n (Next t) = t.spawned ≡ n
FlowCounts n (Skip t) = t.spawned ≡ n
FlowCounts n (Enter body t) = t.spawned ≡ n
FlowCounts n (Stop stop_point) = Counts n stop_point

module _ (n : ℕ) where
  trap_counts : {X : Type 0} (r : Result X TrapKind) (f : X → Flow) → ((x : X) → FlowCounts n (f x)) → FlowCounts n (then_flow r f)
  trap_counts (Ok x) f all = all x
  trap_counts (Err t) f all = tt

  branch_counts : (b : Bool) (x y : Flow) → FlowCounts n x → FlowCounts n y → FlowCounts n (cond b x y)
  branch_counts true x y one two = one
  branch_counts false x y one two = two

  spawns_count : (fs : List Function) (depth : ℕ) (x f : List ℕ) (lines : List Stmt) (t : State) → t.spawned ≡ n → (args : List Value) → FlowCounts n (spawn_flow fs depth x f lines t args)
  spawns_count fs depth x f lines t is args =
      branch_counts (eqb depth 4 || eqb (suc t.spawned) 4096) (stop_with_trap trap.Spawn) (stop_at (One x) lines t (o.Spawn (suc t.spawned) (unwrap_or (find f fs) 0) args)) tt (is, ap suc is)

  joins_count : (x : List ℕ) (lines : List Stmt) (t : State) → t.spawned ≡ n → (v : Value) → FlowCounts n (join_flow x lines t v)
  joins_count x lines t is (Int (pos m)) = at (leb 1 m && leb m t.spawned)
    where
      at : (b : Bool) → FlowCounts n (cond b (stop_at (One x) lines t (o.Join m)) (stop_with_trap trap.Join))
      at true = (is, tt)
      at false = tt
  joins_count x lines t is _ = tt

  none_counts : (v : Value) (flow : Flow) → FlowCounts n flow → FlowCounts n (unless_none v flow)
  none_counts Nothing flow is = tt
  none_counts (Int m) flow is = is
  none_counts (Text m) flow is = is

  outside_counts : (names : Option (List (List ℕ))) (flow : Flow) → FlowCounts n flow → FlowCounts n (outside_transaction names flow)
  outside_counts None flow is = is
  outside_counts (Some names) flow is = tt

  inside_counts : (names : Option (List (List ℕ))) (f : List (List ℕ) → Flow) → ((x : List (List ℕ)) → FlowCounts n (f x)) → FlowCounts n (inside_transaction names f)
  inside_counts None f all = tt
  inside_counts (Some names) f all = all names

  ends_count : (bs : List Block) (t : State) → t.spawned ≡ n → FlowCounts n (end_block bs t)
  ends_count [] t is = is
  ends_count (Branch ∷ bs) t is = is
  ends_count (Loop test body ∷ bs) t is = trap_counts (and_then (eval test t.variables) as_condition) (λ b. cond b (Enter body t) (Next (pop_block t))) (λ b. branch_counts b (Enter body t) (Next (pop_block t)) is is)

  execute_counts : (fs : List Function) (depth : ℕ) (l : Stmt) (lines : List Stmt) (t : State) → t.spawned ≡ n → FlowCounts n (execute fs depth l lines t)
  execute_counts fs depth (s.Let x e) lines t is = trap_counts (eval e t.variables) _ (λ v. is)
  execute_counts fs depth (s.Read x e) lines t is = trap_counts (and_then (eval e t.variables) to_name) _ (λ key. (is, tt))
  execute_counts fs depth (s.Write e f) lines t is = trap_counts (eval e t.variables) _ (λ m. trap_counts (eval f t.variables) _ (λ v. trap_counts (to_name m) _ (λ key. (is, tt))))
  execute_counts fs depth (s.Spawn x f es) lines t is = trap_counts (eval_all es t.variables) (spawn_flow fs depth x f lines t) (λ args. spawns_count fs depth x f lines t is args)
  execute_counts fs depth (s.Join x e) lines t is = trap_counts (eval e t.variables) (join_flow x lines t) (λ v. joins_count x lines t is v)
  execute_counts fs depth (s.Push e f) lines t is = trap_counts (eval e t.variables) _ (λ m. trap_counts (eval f t.variables) _ (λ v. trap_counts (to_name m) _ (λ queue. none_counts v (stop_at Nowhere lines t (o.Push queue v)) (is, tt))))
  execute_counts fs depth (s.Pop x e) lines t is = trap_counts (and_then (eval e t.variables) to_name) _ (λ queue. (is, tt))
  execute_counts fs depth (s.Begin pairs) lines t is = trap_counts (and_then (eval_all (pair_expressions pairs) t.variables) to_names) _ (λ names. outside_counts t.transaction (stop_at (Each (pair_names pairs)) lines t (o.Begin names)) (is, tt))
  execute_counts fs depth (s.Commit x pairs) lines t is = trap_counts (eval_all (both_sides pairs) t.variables) _ (λ vs. trap_counts (to_names (left_values vs)) _ (λ ns. inside_counts t.transaction (λ read. stop_at (One x) lines t (o.Commit read (pair_writes ns vs))) (λ read. (is, tt))))
  execute_counts fs depth (s.If e) lines t is = trap_counts (and_then (eval e t.variables) as_condition) _ (λ b. branch_counts b (Next (push_block Branch t)) (Skip t) is is)
  execute_counts fs depth s.Else lines t is = is
  execute_counts fs depth (s.While e) lines t is = trap_counts (and_then (eval e t.variables) as_condition) _ (λ b. branch_counts b (Enter lines (push_block (Loop e lines) t)) (Skip t) is is)
  execute_counts fs depth s.End lines t is = ends_count t.blocks t is
  execute_counts fs depth (s.Return e) lines t is = trap_counts (eval e t.variables) _ (λ v. tt)
  execute_counts fs depth (s.ReadAll pairs) lines t is = trap_counts (and_then (eval_all (pair_expressions pairs) t.variables) to_names) (λ keys. stop_at (Each (pair_names pairs)) lines t (o.ReadGroup keys)) (λ keys. (is, tt))

  module _ (fs : List Function) (depth : ℕ) where
    go_counts : (inner : List Stmt → State → StopPoint) → ((body : List Stmt) (t : State) → t.spawned ≡ n → Counts n (inner body t)) → (skipping : Option ℕ) (lines : List Stmt) (t : State) → t.spawned ≡ n → Counts n (execute_from fs depth inner skipping lines t)
    go_counts inner all skipping [] t is = tt
    go_counts inner all None (l ∷ ls) t is = at (execute fs depth l ls t) (execute_counts fs depth l ls t is) (λ u is. go_counts inner all None ls u is) (λ u is. go_counts inner all (Some 0) ls u is)
      where
        at : (flow : Flow) → FlowCounts n flow → ((u : State) → u.spawned ≡ n → Counts n (execute_from fs depth inner None ls u)) → ((u : State) → u.spawned ≡ n → Counts n (execute_from fs depth inner (Some 0) ls u))
            → Counts n (elim flow [ Next u ↦ execute_from fs depth inner None ls u | Skip u ↦ execute_from fs depth inner (Some 0) ls u | Enter body u ↦ inner body u | Stop stop_point ↦ stop_point ])
        at (Next u) is next skip = next u is
        at (Skip u) is next skip = skip u is
        at (Enter body u) is next skip = all body u is
        at (Stop stop_point) is next skip = is
    go_counts inner all (Some m) (l ∷ ls) t is = at (skip_line m l) (λ u is. go_counts inner all None ls u is) (λ j. go_counts inner all (Some j) ls t is)
      where
        at : (p : Skipped) → ((u : State) → u.spawned ≡ n → Counts n (execute_from fs depth inner None ls u)) → ((j : ℕ) → Counts n (execute_from fs depth inner (Some j) ls t))
            → Counts n (elim p [ BlockEnds ↦ execute_from fs depth inner None ls t | ElseBegins ↦ execute_from fs depth inner None ls (push_block Branch t) | SkipsOn j ↦ execute_from fs depth inner (Some j) ls t ])
        at BlockEnds next skip = next t is
        at ElseBegins next skip = next (push_block Branch t) is
        at (SkipsOn j) next skip = skip j

    enter_counts : (left : ℕ) (body : List Stmt) (t : State) → t.spawned ≡ n → Counts n (enter_body fs depth left body t)
    enter_counts zero body t is = tt
    enter_counts (suc left) body t is = go_counts (enter_body fs depth left) (enter_counts left) None body t is

    run_counts : (lines : List Stmt) (t : State) → t.spawned ≡ n → Counts n (run_script fs depth lines t)
    run_counts lines t is = go_counts (enter_body fs depth entries) (enter_counts entries) None lines t is

-- The start of a function, and an answer.

pub set_each_spawned : (xs : List (List ℕ)) (vs : List Value) (t : State) → (set_variables xs vs t).spawned ≡ t.spawned
set_each_spawned [] vs t = refl
set_each_spawned (x ∷ xs) [] t = refl
set_each_spawned (x ∷ xs) (v ∷ vs) t = set_each_spawned xs vs (set_variable x v t)

pub set_target_spawned : (target : Target) (v : Value) (t : State) → (set_target target v t).spawned ≡ t.spawned
set_target_spawned (One x) v t = refl
set_target_spawned Nowhere v t = refl
set_target_spawned (Each xs) v t = refl

pub set_targets_spawned : (target : Target) (vs : List Value) (t : State) → (set_targets target vs t).spawned ≡ t.spawned
set_targets_spawned (Each xs) vs t = set_each_spawned xs vs t
set_targets_spawned Nowhere vs t = refl
set_targets_spawned (One x) vs t = refl

abbrev ResultCounts : ℕ → Result State TrapKind → Type 0
ResultCounts n (Ok t) = t.spawned ≡ n
ResultCounts n (Err why) = Unit {0}

abbrev AnsweredCounts : ℕ → Option (Result State TrapKind) → Type 0
AnsweredCounts n None = Unit {0}
AnsweredCounts n (Some r) = ResultCounts n r

if_counts : (n : ℕ) (b : Bool) (r : Result State TrapKind) → (b ≡ true → ResultCounts n r) → AnsweredCounts n (cond b (Some r) None)
if_counts n true r is = is refl
if_counts n false r is = tt

joined_counts : (n : ℕ) (target : Target) (outcome : Outcome) (t : State) → t.spawned ≡ n → ResultCounts n (set_joined target outcome t)
joined_counts n target (Good v) t is = set_target_spawned target v t ∙ is
joined_counts n target (Trap why) t is = tt

answered_counts : (n : ℕ) (op : Op) (target : Target) (x : Answer) (t : State) → t.spawned ≡ n → AsksNext n op → AnsweredCounts (is_spawned x + n) (apply_answer op target x t)
answered_counts n (o.Read key) target (a.Value v) t is next = set_target_spawned target v t ∙ is ∙ omega arith
answered_counts n (o.Write key value) target a.Done t is next = is ∙ omega arith
answered_counts n (o.Spawn ordinal f args) target (a.Spawned m) t is next = if_counts (1 + n) (eqb m ordinal) _ (λ e. eqb-true m ordinal e ∙ next ∙ omega arith)
answered_counts n (o.Join ordinal) target (a.Joined outcome) t is next = joined_counts (0 + n) target outcome t (is ∙ omega arith)
answered_counts n (o.Push queue value) target a.Done t is next = is ∙ omega arith
answered_counts n (o.Pop queue) target (a.Value v) t is next = set_target_spawned target v t ∙ is ∙ omega arith
answered_counts n (o.Begin names) target (a.Values vs) t is next = if_counts (0 + n) (eqb (length vs) (length names)) _ (λ e. set_targets_spawned target vs t ∙ is ∙ omega arith)
answered_counts n (o.Commit names writes) target (a.Committed good) t is next = set_target_spawned target _ t ∙ is ∙ omega arith
answered_counts n (o.ReadGroup keys) target (a.Values vs) t is next = if_counts (0 + n) (eqb (length vs) (length keys)) _ (λ e. set_targets_spawned target vs t ∙ is ∙ omega arith)
answered_counts n _ target _ t is next = tt

abbrev MayCount : ℕ → Option StopPoint → Type 0
MayCount n None = Unit {0}
MayCount n (Some stop_point) = Counts n stop_point

module _ (fs : List Function) (depth : ℕ) where
  continued_counts : (n : ℕ) (lines : List Stmt) (r : Option (Result State TrapKind)) → AnsweredCounts n r → MayCount n (option_map (continue_after fs depth lines) r)
  continued_counts n lines None is = tt
  continued_counts n lines (Some (Ok t)) is = run_counts n fs depth lines t is
  continued_counts n lines (Some (Err why)) is = tt

  resume_counts : (n : ℕ) (x : Answer) (st : Option StopPoint) → MayCount n st → MayCount (is_spawned x + n) (option_and_then (resume fs depth x) st)
  resume_counts n x None is = tt
  resume_counts n x (Some (AtOperation op target lines t)) is = continued_counts (is_spawned x + n) lines (apply_answer op target x t) (answered_counts n op target x t is.0 is.1)
  resume_counts n x (Some (AtEnd outcome)) is = tt

  begins_count : (args : List Value) (f : Option Function) → MayCount 0 (start_function fs depth args f)
  begins_count args None = tt
  begins_count args (Some f) = at (eqb (length f.params) (length args))
    where
      at : (b : Bool) → MayCount 0 (cond b (Some (run_script fs depth f.lines (initial_state f.params args))) None)
      at true = run_counts 0 fs depth f.lines (initial_state f.params args) (set_each_spawned f.params args _)
      at false = tt

  standing_counts : (f : ℕ) (args : List Value) (answers : List Answer) → MayCount (spawned_in answers) (stop_point fs f args depth answers)
  standing_counts f args [] = begins_count args (function_at f fs)
  standing_counts f args (x ∷ xs) = resume_counts (spawned_in xs) x (stop_point fs f args depth xs) (standing_counts f args xs)

  -- the ordinal of a spawn
  pub ordinal_is : (f : ℕ) (args : List Value) (answers : List Answer) (ordinal g : ℕ) (gs : List Value) → next_ask fs f args depth answers ≡ Some (k.Op (o.Spawn ordinal g gs)) → ordinal ≡ suc (spawned_in answers)
  ordinal_is f args answers ordinal g gs is = at (stop_point fs f args depth answers) (standing_counts f args answers) is
    where
      ask_next : (op : Op) → AsksNext (spawned_in answers) op → Some (k.Op op) ≡ Some (k.Op (o.Spawn ordinal g gs)) → ordinal ≡ suc (spawned_in answers)
      ask_next op next e = subst (AsksNext (spawned_in answers)) (let same : op ≡ o.Spawn ordinal g gs = cc in same) next

      at : (st : Option StopPoint) → MayCount (spawned_in answers) st → option_map ask_of st ≡ Some (k.Op (o.Spawn ordinal g gs)) → ordinal ≡ suc (spawned_in answers)
      at None counts e = let no_way : None ≡ Some (k.Op (o.Spawn ordinal g gs)) = e in cc
      at (Some (AtOperation op target lines t)) counts e = ask_next op counts.1 e
      at (Some (AtEnd outcome)) counts e = let no_way : Some (k.Done outcome) ≡ Some (k.Op (o.Spawn ordinal g gs)) = e in cc
