-- What a script asks: it spawns functions that are there, at a depth and with an ordinal that a path can have, and commits only
-- where a transaction is open.
use Rattle.std.proofs.Common.{◌≡◌, ℕ, zero, suc, ◌≤◌, Bool, true, false, cond, eqb, leb, ◌&&◌, ◌||◌, List, [], ◌∷◌, length, Option, Some, None, option_map, Result, Ok, Err, refl, sym, ap, ◌∙◌, subst, arith}
use Rattle.std.specs.Prelude.{pos, option_and_then, unwrap_or, is_some, bytes_eq}
use Rattle.std.proofs.lemmas.Bool.{eqb-true, eq-eqb}
use Rattle.lb_base.specs.declared.value.Value.{Value}
use Rattle.lb_base.specs.declared.value.Value.TheVariants.{Int, Text, Nothing}
use Rattle.lb_base.specs.declared.value.TrapKind.{TrapKind}
use Rattle.lb_base.specs.declared.value.TrapKind.TheVariants as trap
use Rattle.lb_base.specs.declared.value.Outcome.{Outcome}
use Rattle.lb_base.specs.declared.value.Outcome.TheVariants.{Good, Trap}
use Rattle.boki_types.specs.declared.program.Stmt.{Stmt}
use Rattle.boki_types.specs.declared.program.Stmt.TheVariants as s
use Rattle.boki_types.specs.declared.program.Function.{Function}
use Rattle.boki_types.specs.declared.operation.Op.{Op}
use Rattle.boki_types.specs.declared.operation.Op.TheVariants as o
use Rattle.boki_types.specs.declared.operation.Ask.TheVariants as k
use Rattle.boki_types.specs.declared.operation.Answer.{Answer}
use Rattle.boki_types.specs.declared.operation.Answer.TheVariants as a
use Rattle.boki_types.specs.Finding.{find, function_at}
use Rattle.boki_model.specs.Values.{and_then, bool_value, as_condition, eval, eval_all, to_name, to_names}
use Rattle.boki_model.specs.Script.{Block, Branch, Loop, State, Target, Nowhere, One, Each, StopPoint, AtOperation, AtEnd, Flow, Next, Skip, Enter, Stop, set_variable, set_variables, push_block, pop_block, then_flow, stop_at, stop_with_trap, unless_none, outside_transaction, inside_transaction, spawn_flow, join_flow, pair_writes, pair_names, pair_expressions, both_sides, left_values, end_block, execute, Skipped, BlockEnds, ElseBegins, SkipsOn, skip_line, execute_from, enter_body, entries, run_script, initial_state, start_function, set_target, set_targets, set_joined, apply_answer, continue_after, resume, stop_point, ask_of, next_ask}
use Rattle.boki_machine.specs.Step.{function_name}
use Rattle.exactly_once.proofs.Log.MapChanges.{same_itself, same_key}

-- A function's number is found by its name.

name_found : (name : List ℕ) (fs : List Function) (n : ℕ) → find name fs ≡ Some n → function_name n fs ≡ name
name_found name [] n found = cc
name_found name (f ∷ fs) n found = at (bytes_eq name f.name) refl (find name fs) refl (λ m g. name_found name fs m g) found
  where
    later : (m : ℕ) → function_name m fs ≡ name → suc m ≡ n → function_name n (f ∷ fs) ≡ name
    later m is e = ap (λ n. function_name n (f ∷ fs)) (sym e) ∙ is

    at : (b : Bool) → bytes_eq name f.name ≡ b → (o : Option ℕ) → find name fs ≡ o → ((m : ℕ) → find name fs ≡ Some m → function_name m fs ≡ name) → cond b (Some 0) (option_map suc o) ≡ Some n → function_name n (f ∷ fs) ≡ name
    at true e o g ih found = let zero_is : 0 ≡ n = cc in ap (λ n. function_name n (f ∷ fs)) (sym zero_is) ∙ sym (same_key name f.name e)
    at false e None g ih found = cc
    at false e (Some m) g ih found = let e : suc m ≡ n = cc in later m (ih m g) e

-- where there is a function at all, one that isn't found counts as the first
pub number_found : (name : List ℕ) (f : Function) (fs : List Function) → find (function_name (unwrap_or (find name (f ∷ fs)) 0) (f ∷ fs)) (f ∷ fs) ≡ Some (unwrap_or (find name (f ∷ fs)) 0)
number_found name f fs = at (find name (f ∷ fs)) refl
  where
    at : (o : Option ℕ) → find name (f ∷ fs) ≡ o → find (function_name (unwrap_or o 0) (f ∷ fs)) (f ∷ fs) ≡ Some (unwrap_or o 0)
    at None e = ap (λ b. cond b (Some 0) (option_map suc (find f.name fs))) (same_itself f.name)
    at (Some n) e = ap (λ q. find q (f ∷ fs)) (name_found name (f ∷ fs) n e) ∙ e

-- What is asked is right, where n children were answered and the transaction is open or not.

module _ (fs : List Function) (depth : ℕ) where
  pub record IsSpawn (n ordinal f : ℕ) : Type 0 where
    pub ordinal_is : ordinal ≡ suc n
    pub shallow : depth ≡ 4 → ⊥
    pub few : ordinal ≡ 4096 → ⊥
    pub found : find (function_name f fs) fs ≡ Some f

  abbrev pub IsRight : ℕ → Bool → Op → Type 0
  IsRight n is_open (o.Spawn ordinal f args) = IsSpawn n ordinal f
  IsRight n is_open (o.Commit names writes) = is_open ≡ true
  IsRight n is_open _ = Unit {0}

  -- a script stands right
  abbrev IsAt : ℕ → Bool → State → Type 0
  IsAt n is_open t = (t.spawned ≡ n) × (is_some t.transaction ≡ is_open)

  abbrev Stands : ℕ → Bool → StopPoint → Type 0
  Stands n is_open (AtOperation op target lines t) = IsAt n is_open t × IsRight n is_open op
  Stands n is_open (AtEnd outcome) = Unit {0}

  abbrev Flows : ℕ → Bool → Flow → Type 0
  Flows n is_open (Next t) = IsAt n is_open t
  Flows n is_open (Skip t) = IsAt n is_open t
  Flows n is_open (Enter body t) = IsAt n is_open t
  Flows n is_open (Stop stop_point) = Stands n is_open stop_point

  module _ (n : ℕ) (is_open : Bool) (some : (name : List ℕ) → find (function_name (unwrap_or (find name fs) 0) fs) fs ≡ Some (unwrap_or (find name fs) 0)) where
    trap_flows : {X : Type 0} (r : Result X TrapKind) (f : X → Flow) → ((x : X) → Flows n is_open (f x)) → Flows n is_open (then_flow r f)
    trap_flows (Ok x) f all = all x
    trap_flows (Err t) f all = tt

    branch_flows : (b : Bool) (x y : Flow) → Flows n is_open x → Flows n is_open y → Flows n is_open (cond b x y)
    branch_flows true x y one two = one
    branch_flows false x y one two = two

    spawns_flow : (x f : List ℕ) (lines : List Stmt) (t : State) → IsAt n is_open t → (args : List Value) → Flows n is_open (spawn_flow fs depth x f lines t args)
    spawns_flow x f lines t is args = at (eqb depth 4) refl (eqb (suc t.spawned) 4096) refl
      where
        at : (b : Bool) → eqb depth 4 ≡ b → (c : Bool) → eqb (suc t.spawned) 4096 ≡ c → Flows n is_open (cond (b || c) (stop_with_trap trap.Spawn) (stop_at (One x) lines t (o.Spawn (suc t.spawned) (unwrap_or (find f fs) 0) args)))
        at true d c e = tt
        at false d true e = tt
        at false d false e = (
          is,
          record {
            ordinal_is = ap suc is.0;
            shallow = λ h. let yes : eqb depth 4 ≡ true = eq-eqb depth 4 h in let no_way : ⊥ = cc in no_way;
            few = λ h. let yes : eqb (suc t.spawned) 4096 ≡ true = eq-eqb (suc t.spawned) 4096 h in let no_way : ⊥ = cc in no_way;
            found = some f;
          },
        )

    joins_flow : (x : List ℕ) (lines : List Stmt) (t : State) → IsAt n is_open t → (v : Value) → Flows n is_open (join_flow x lines t v)
    joins_flow x lines t is (Int (pos m)) = at (leb 1 m && leb m t.spawned)
      where
        at : (b : Bool) → Flows n is_open (cond b (stop_at (One x) lines t (o.Join m)) (stop_with_trap trap.Join))
        at true = (is, tt)
        at false = tt
    joins_flow x lines t is _ = tt

    none_flows : (v : Value) (flow : Flow) → Flows n is_open flow → Flows n is_open (unless_none v flow)
    none_flows Nothing flow is = tt
    none_flows (Int m) flow is = is
    none_flows (Text m) flow is = is

    outside_flows : (names : Option (List (List ℕ))) (flow : Flow) → Flows n is_open flow → Flows n is_open (outside_transaction names flow)
    outside_flows None flow is = is
    outside_flows (Some names) flow is = tt

    inside_flows : (names : Option (List (List ℕ))) (f : List (List ℕ) → Flow) → ((x : List (List ℕ)) → names ≡ Some x → Flows n is_open (f x)) → Flows n is_open (inside_transaction names f)
    inside_flows None f all = tt
    inside_flows (Some names) f all = all names refl

    ends_flow : (bs : List Block) (t : State) → IsAt n is_open t → Flows n is_open (end_block bs t)
    ends_flow [] t is = is
    ends_flow (Branch ∷ bs) t is = is
    ends_flow (Loop test body ∷ bs) t is = trap_flows (and_then (eval test t.variables) as_condition) (λ b. cond b (Enter body t) (Next (pop_block t))) (λ b. branch_flows b (Enter body t) (Next (pop_block t)) is is)

    execute_flows : (l : Stmt) (lines : List Stmt) (t : State) → IsAt n is_open t → Flows n is_open (execute fs depth l lines t)
    execute_flows (s.Let x e) lines t is = trap_flows (eval e t.variables) _ (λ v. is)
    execute_flows (s.Read x e) lines t is = trap_flows (and_then (eval e t.variables) to_name) _ (λ key. (is, tt))
    execute_flows (s.Write e f) lines t is = trap_flows (eval e t.variables) _ (λ m. trap_flows (eval f t.variables) _ (λ v. trap_flows (to_name m) _ (λ key. (is, tt))))
    execute_flows (s.Spawn x f es) lines t is = trap_flows (eval_all es t.variables) (spawn_flow fs depth x f lines t) (λ args. spawns_flow x f lines t is args)
    execute_flows (s.Join x e) lines t is = trap_flows (eval e t.variables) (join_flow x lines t) (λ v. joins_flow x lines t is v)
    execute_flows (s.Push e f) lines t is = trap_flows (eval e t.variables) _ (λ m. trap_flows (eval f t.variables) _ (λ v. trap_flows (to_name m) _ (λ queue. none_flows v (stop_at Nowhere lines t (o.Push queue v)) (is, tt))))
    execute_flows (s.Pop x e) lines t is = trap_flows (and_then (eval e t.variables) to_name) _ (λ queue. (is, tt))
    execute_flows (s.Begin pairs) lines t is = trap_flows (and_then (eval_all (pair_expressions pairs) t.variables) to_names) _ (λ names. outside_flows t.transaction (stop_at (Each (pair_names pairs)) lines t (o.Begin names)) (is, tt))
    execute_flows (s.Commit x pairs) lines t is = trap_flows (eval_all (both_sides pairs) t.variables) _ (λ vs. trap_flows (to_names (left_values vs)) _ (λ ns. inside_flows t.transaction (λ read. stop_at (One x) lines t (o.Commit read (pair_writes ns vs))) (λ read e. (is, sym is.1 ∙ ap is_some e))))
    execute_flows (s.If e) lines t is = trap_flows (and_then (eval e t.variables) as_condition) _ (λ b. branch_flows b (Next (push_block Branch t)) (Skip t) is is)
    execute_flows s.Else lines t is = is
    execute_flows (s.While e) lines t is = trap_flows (and_then (eval e t.variables) as_condition) _ (λ b. branch_flows b (Enter lines (push_block (Loop e lines) t)) (Skip t) is is)
    execute_flows s.End lines t is = ends_flow t.blocks t is
    execute_flows (s.Return e) lines t is = trap_flows (eval e t.variables) _ (λ v. tt)
    execute_flows (s.ReadAll pairs) lines t is = trap_flows (and_then (eval_all (pair_expressions pairs) t.variables) to_names) (λ keys. stop_at (Each (pair_names pairs)) lines t (o.ReadGroup keys)) (λ keys. (is, tt))

    go_stands : (inner : List Stmt → State → StopPoint) → ((body : List Stmt) (t : State) → IsAt n is_open t → Stands n is_open (inner body t)) → (skipping : Option ℕ) (lines : List Stmt) (t : State) → IsAt n is_open t → Stands n is_open (execute_from fs depth inner skipping lines t)
    go_stands inner all skipping [] t is = tt
    go_stands inner all None (l ∷ ls) t is = at (execute fs depth l ls t) (execute_flows l ls t is) (λ u is. go_stands inner all None ls u is) (λ u is. go_stands inner all (Some 0) ls u is)
      where
        at : (flow : Flow) → Flows n is_open flow → ((u : State) → IsAt n is_open u → Stands n is_open (execute_from fs depth inner None ls u)) → ((u : State) → IsAt n is_open u → Stands n is_open (execute_from fs depth inner (Some 0) ls u))
            → Stands n is_open (elim flow [ Next u ↦ execute_from fs depth inner None ls u | Skip u ↦ execute_from fs depth inner (Some 0) ls u | Enter body u ↦ inner body u | Stop stop_point ↦ stop_point ])
        at (Next u) is next skip = next u is
        at (Skip u) is next skip = skip u is
        at (Enter body u) is next skip = all body u is
        at (Stop stop_point) is next skip = is
    go_stands inner all (Some m) (l ∷ ls) t is = at (skip_line m l) (λ u is. go_stands inner all None ls u is) (λ j. go_stands inner all (Some j) ls t is)
      where
        at : (p : Skipped) → ((u : State) → IsAt n is_open u → Stands n is_open (execute_from fs depth inner None ls u)) → ((j : ℕ) → Stands n is_open (execute_from fs depth inner (Some j) ls t))
            → Stands n is_open (elim p [ BlockEnds ↦ execute_from fs depth inner None ls t | ElseBegins ↦ execute_from fs depth inner None ls (push_block Branch t) | SkipsOn j ↦ execute_from fs depth inner (Some j) ls t ])
        at BlockEnds next skip = next t is
        at ElseBegins next skip = next (push_block Branch t) is
        at (SkipsOn j) next skip = skip j

    enter_stands : (left : ℕ) (body : List Stmt) (t : State) → IsAt n is_open t → Stands n is_open (enter_body fs depth left body t)
    enter_stands zero body t is = tt
    enter_stands (suc left) body t is = go_stands (enter_body fs depth left) (enter_stands left) None body t is

    run_stands : (lines : List Stmt) (t : State) → IsAt n is_open t → Stands n is_open (run_script fs depth lines t)
    run_stands lines t is = go_stands (enter_body fs depth entries) (enter_stands entries) None lines t is

-- An answer.

set_each_kept : (xs : List (List ℕ)) (vs : List Value) (t : State) → ((set_variables xs vs t).spawned ≡ t.spawned) × ((set_variables xs vs t).transaction ≡ t.transaction)
set_each_kept [] vs t = (refl, refl)
set_each_kept (x ∷ xs) [] t = (refl, refl)
set_each_kept (x ∷ xs) (v ∷ vs) t = set_each_kept xs vs (set_variable x v t)

set_target_kept : (target : Target) (v : Value) (t : State) → ((set_target target v t).spawned ≡ t.spawned) × ((set_target target v t).transaction ≡ t.transaction)
set_target_kept (One x) v t = (refl, refl)
set_target_kept Nowhere v t = (refl, refl)
set_target_kept (Each xs) v t = (refl, refl)

set_targets_kept : (target : Target) (vs : List Value) (t : State) → ((set_targets target vs t).spawned ≡ t.spawned) × ((set_targets target vs t).transaction ≡ t.transaction)
set_targets_kept (Each xs) vs t = set_each_kept xs vs t
set_targets_kept Nowhere vs t = (refl, refl)
set_targets_kept (One x) vs t = (refl, refl)

-- a begin opens the transaction, and a commit ends it
abbrev pub open_behind : Op → Bool → Bool
open_behind (o.Begin names) was = true
open_behind (o.Commit names writes) was = false
open_behind _ was = was

abbrev ResultIs : Bool → Result State TrapKind → Type 0
ResultIs is_open (Ok t) = (t.spawned ≤ 4095) × (is_some t.transaction ≡ is_open)
ResultIs is_open (Err why) = Unit {0}

abbrev AnsweredIs : Bool → Option (Result State TrapKind) → Type 0
AnsweredIs is_open None = Unit {0}
AnsweredIs is_open (Some r) = ResultIs is_open r

if_is : (is_open : Bool) (b : Bool) (r : Result State TrapKind) → (b ≡ true → ResultIs is_open r) → AnsweredIs is_open (cond b (Some r) None)
if_is is_open true r is = is refl
if_is is_open false r is = tt

kept_is : (t u : State) → (u.spawned ≡ t.spawned) × (u.transaction ≡ t.transaction) → t.spawned ≤ 4095 → (u.spawned ≤ 4095) × (is_some u.transaction ≡ is_some t.transaction)
kept_is t u kept few = (omega (arith, kept.0, few), ap is_some kept.1)

joined_is : (target : Target) (outcome : Outcome) (t : State) → t.spawned ≤ 4095 → ResultIs (is_some t.transaction) (set_joined target outcome t)
joined_is target (Good v) t few = kept_is t (set_target target v t) (set_target_kept target v t) few
joined_is target (Trap why) t few = tt

module _ (fs : List Function) (depth : ℕ) where
  answered_is : (op : Op) (target : Target) (x : Answer) (t : State) → t.spawned ≤ 4095 → IsRight fs depth t.spawned (is_some t.transaction) op → AnsweredIs (open_behind op (is_some t.transaction)) (apply_answer op target x t)
  answered_is (o.Read key) target (a.Value v) t few right = kept_is t (set_target target v t) (set_target_kept target v t) few
  answered_is (o.Write key value) target a.Done t few right = (few, refl)
  answered_is (o.Spawn ordinal f args) target (a.Spawned m) t few right =
      if_is (is_some t.transaction) (eqb m ordinal) _ (λ e. ((let same : m ≡ ordinal = eqb-true m ordinal e in let h : ordinal ≡ suc t.spawned = right.ordinal_is in let no : ordinal ≡ 4096 → ⊥ = right.few in omega (arith, same, h, no, few)), ap is_some (set_target_kept target (Int (pos m)) t).1))
  answered_is (o.Join ordinal) target (a.Joined outcome) t few right = joined_is target outcome t few
  answered_is (o.Push queue value) target a.Done t few right = (few, refl)
  answered_is (o.Pop queue) target (a.Value v) t few right = kept_is t (set_target target v t) (set_target_kept target v t) few
  answered_is (o.Begin names) target (a.Values vs) t few right = if_is true (eqb (length vs) (length names)) _ (λ e. ((let h = (set_targets_kept target vs t).0 in omega (arith, h, few)), refl))
  answered_is (o.Commit names writes) target (a.Committed good) t few right = ((let h = (set_target_kept target (bool_value good) t).0 in omega (arith, h, few)), refl)
  answered_is (o.ReadGroup keys) target (a.Values vs) t few right = if_is (is_some t.transaction) (eqb (length vs) (length keys)) _ (λ e. kept_is t (set_targets target vs t) (set_targets_kept target vs t) few)
  answered_is _ target _ t few right = tt

  -- a script stands well at an operation: what it asks is right
  abbrev pub Well : Option StopPoint → Type 0
  Well None = Unit {0}
  Well (Some (AtOperation op target lines t)) = (t.spawned ≤ 4095) × IsRight fs depth t.spawned (is_some t.transaction) op
  Well (Some (AtEnd outcome)) = Unit {0}

  abbrev pub is_open : Option StopPoint → Bool
  is_open None = false
  is_open (Some (AtOperation op target lines t)) = is_some t.transaction
  is_open (Some (AtEnd outcome)) = false

  record Goes (was : Bool) (st : Option StopPoint) : Type 0 where
    pub well : Well st
    pub open_was : is_open st ≡ true → was ≡ true

  none_goes : (was : Bool) → Goes was None
  none_goes was = record { well = tt; open_was = λ e. let no_way : false ≡ true = e in cc }

  module _ (some : (name : List ℕ) → find (function_name (unwrap_or (find name fs) 0) fs) fs ≡ Some (unwrap_or (find name fs) 0)) where
    run_goes : (lines : List Stmt) (t : State) (was : Bool) → t.spawned ≤ 4095 → is_some t.transaction ≡ was → Goes was (Some (run_script fs depth lines t))
    run_goes lines t was few e = at (run_script fs depth lines t) (run_stands fs depth t.spawned (is_some t.transaction) some lines t (refl, refl))
      where
        at : (st : StopPoint) → Stands fs depth t.spawned (is_some t.transaction) st → Goes was (Some st)
        at (AtOperation op target lines u) stands =
            let n : t.spawned ≡ u.spawned = sym stands.0.0 in
            let b : is_some t.transaction ≡ is_some u.transaction = sym stands.0.1 in
            record {
              well = (omega (arith, n, few), subst (λ b. IsRight fs depth u.spawned b op) b (subst (λ n. IsRight fs depth n (is_some t.transaction) op) n stands.1));
              open_was = λ h. sym e ∙ b ∙ h;
            }
        at (AtEnd outcome) stands = record { well = tt; open_was = λ h. let no_way : false ≡ true = h in cc }

    continued_goes : (was : Bool) (lines : List Stmt) (r : Option (Result State TrapKind)) → AnsweredIs was r → Goes was (option_map (continue_after fs depth lines) r)
    continued_goes was lines None is = none_goes was
    continued_goes was lines (Some (Ok t)) is = run_goes lines t was is.0 is.1
    continued_goes was lines (Some (Err why)) is = record { well = tt; open_was = λ h. let no_way : false ≡ true = h in cc }

    begins_go : (args : List Value) (f : Option Function) → Goes false (start_function fs depth args f)
    begins_go args None = none_goes false
    begins_go args (Some f) = at (eqb (length f.params) (length args))
      where
        at : (b : Bool) → Goes false (cond b (Some (run_script fs depth f.lines (initial_state f.params args))) None)
        at true =
            let kept = set_each_kept f.params args (record { variables = []; blocks = []; spawned = 0; transaction = None }) in
            run_goes f.lines (initial_state f.params args) false (omega (arith, kept.0)) (ap is_some kept.1)
        at false = none_goes false

    -- what an answer leaves of an open transaction
    abbrev was_open : Option StopPoint → Bool
    was_open None = false
    was_open (Some (AtOperation op target lines t)) = open_behind op (is_some t.transaction)
    was_open (Some (AtEnd outcome)) = false

    resume_goes : (x : Answer) (st : Option StopPoint) → Well st → Goes (was_open st) (option_and_then (resume fs depth x) st)
    resume_goes x None well = none_goes false
    resume_goes x (Some (AtOperation op target lines t)) well = continued_goes (open_behind op (is_some t.transaction)) lines (apply_answer op target x t) (answered_is op target x t well.0 well.1)
    resume_goes x (Some (AtEnd outcome)) well = none_goes false

    some_well : (f : ℕ) (args : List Value) (answers : List Answer) → Well (stop_point fs f args depth answers)
    some_well f args [] = (begins_go args (function_at f fs)).well
    some_well f args (x ∷ xs) = (resume_goes x (stop_point fs f args depth xs) (some_well f args xs)).well

    goes_next : (f : ℕ) (args : List Value) (x : Answer) (answers : List Answer) → Goes (was_open (stop_point fs f args depth answers)) (stop_point fs f args depth (x ∷ answers))
    goes_next f args x answers = resume_goes x (stop_point fs f args depth answers) (some_well f args answers)

    first_goes : (f : ℕ) (args : List Value) → Goes false (stop_point fs f args depth [])
    first_goes f args = begins_go args (function_at f fs)

  -- whether a transaction is open behind these answers
  abbrev pub open_at : ℕ → List Value → List Answer → Bool
  open_at f args answers = is_open (stop_point fs f args depth answers)

  -- what is asked is right
  pub record IsAsking (f : ℕ) (args : List Value) (answers : List Answer) (op : Op) : Type 0 where
    pub n : ℕ
    pub below : n ≤ 4095
    pub right : IsRight fs depth n (open_at f args answers) op

-- without functions nothing is asked
no_functions : (f : ℕ) (args : List Value) (depth : ℕ) (answers : List Answer) → stop_point [] f args depth answers ≡ None
no_functions f args depth [] = refl
no_functions f args depth (x ∷ xs) = ap (option_and_then (resume [] depth x)) (no_functions f args depth xs)

module _ (depth f : ℕ) (args : List Value) where
  pub asking : (fs : List Function) (answers : List Answer) (op : Op) → next_ask fs f args depth answers ≡ Some (k.Op op) → IsAsking fs depth f args answers op
  asking [] answers op is = let no_way : None ≡ Some (k.Op op) = sym (ap (option_map ask_of) (no_functions f args depth answers)) ∙ is in cc
  asking (g ∷ gs) answers op is = at (stop_point (g ∷ gs) f args depth answers) refl (some_well (g ∷ gs) depth (λ name. number_found name g gs) f args answers) is
    where
      at : (st : Option StopPoint) → stop_point (g ∷ gs) f args depth answers ≡ st → Well (g ∷ gs) depth st → option_map ask_of st ≡ Some (k.Op op) → IsAsking (g ∷ gs) depth f args answers op
      at None e well is = let no_way : None ≡ Some (k.Op op) = is in cc
      at (Some (AtOperation op' target lines t)) e well is =
          let same : op' ≡ op = cc in
          record { n = t.spawned; below = well.0; right = subst (λ b. IsRight (g ∷ gs) depth t.spawned b op) (sym (ap (is_open (g ∷ gs) depth) e)) (subst (IsRight (g ∷ gs) depth t.spawned (is_some t.transaction)) same well.1) }
      at (Some (AtEnd outcome)) e well is = let no_way : Some (k.Done outcome) ≡ Some (k.Op op) = is in cc

  -- where a transaction is open behind an answer, its operation left it open, or is its begin
  pub open_before : (fs : List Function) (x : Answer) (answers : List Answer) (op : Op) → next_ask fs f args depth answers ≡ Some (k.Op op) → open_at fs depth f args (x ∷ answers) ≡ true → open_behind op (open_at fs depth f args answers) ≡ true
  open_before [] x answers op is there = let no_way : None ≡ Some (k.Op op) = sym (ap (option_map ask_of) (no_functions f args depth answers)) ∙ is in cc
  open_before (g ∷ gs) x answers op is there = at (stop_point (g ∷ gs) f args depth answers) refl is ((goes_next (g ∷ gs) depth (λ name. number_found name g gs) f args x answers).open_was there)
    where
      at : (st : Option StopPoint) → stop_point (g ∷ gs) f args depth answers ≡ st → option_map ask_of st ≡ Some (k.Op op) → was_open (g ∷ gs) depth (λ name. number_found name g gs) st ≡ true → open_behind op (is_open (g ∷ gs) depth st) ≡ true
      at None e is was = let no_way : None ≡ Some (k.Op op) = is in cc
      at (Some (AtOperation op' target lines t)) e is was = let same : op' ≡ op = cc in subst (λ op. open_behind op (is_some t.transaction) ≡ true) same was
      at (Some (AtEnd outcome)) e is was = let no_way : Some (k.Done outcome) ≡ Some (k.Op op) = is in cc

  pub none_open : (fs : List Function) → open_at fs depth f args [] ≡ true → ⊥
  none_open [] there = let no_way : false ≡ true = there in cc
  none_open (g ∷ gs) there = let no_way : false ≡ true = (first_goes (g ∷ gs) depth (λ name. number_found name g gs) f args).open_was there in cc
