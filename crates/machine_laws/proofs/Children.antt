-- A script asks a spawn or a join only of a child that a path has room for.
use Rattle.std.proofs.Common.{◌≡◌, ℕ, zero, suc, Bool, true, false, cond, eqb, leb, ◌&&◌, ◌||◌, List, [], ◌∷◌, length, Option, Some, None, option_map, Result, Ok, Err, ◌++◌, ◌<◌, ltb, refl, sym, ap, subst, arith}
use Rattle.std.specs.Prelude.{if◌then◌else◌, pos, option_and_then, unwrap_or}
use Rattle.std.proofs.lemmas.Bool.{eqb-true, eqb-false, leb-true, ltb-true, lt-ltb, and_parts, and_from}
use Rattle.lb_base.specs.Path.{is_request, is_ordinal, are_ordinals, IsPath, child_path}
use Rattle.lb_base.specs.declared.value.Value.{Value}
use Rattle.lb_base.specs.declared.value.Value.TheVariants.{Int, Text, Nothing}
use Rattle.lb_base.specs.declared.value.TrapKind.{TrapKind}
use Rattle.lb_base.specs.declared.value.TrapKind.TheVariants as trap
use Rattle.lb_base.specs.declared.value.Outcome.{Outcome}
use Rattle.lb_base.specs.declared.value.Outcome.TheVariants.{Good, Trap}
use Rattle.boki_types.specs.declared.program.Stmt.{Stmt}
use Rattle.boki_types.specs.declared.program.Stmt.TheVariants as s
use Rattle.boki_types.specs.declared.program.Function.{Function}
use Rattle.boki_types.specs.declared.operation.Op.{Op}
use Rattle.boki_types.specs.declared.operation.Op.TheVariants as o
use Rattle.boki_types.specs.declared.operation.Ask.TheVariants as k
use Rattle.boki_types.specs.declared.operation.Answer.{Answer}
use Rattle.boki_types.specs.declared.operation.Answer.TheVariants as a
use Rattle.boki_model.specs.Bodies.{child}
use Rattle.exactly_once.proofs.Asking.SpawnOrdinals.{set_each_spawned, set_target_spawned, set_targets_spawned}
use Rattle.machine_laws.specs.Children.{IsChild, AsksChild, HasPath, ChildrenHavePaths}
use Rattle.boki_types.specs.Finding.{find, function_at}
use Rattle.boki_model.specs.Values.{and_then, as_condition, eval, eval_all, to_name, to_names}
use Rattle.boki_model.specs.Script.{Block, Branch, Loop, State, Target, Nowhere, One, Each, StopPoint, AtOperation, AtEnd, Flow, Next, Skip, Enter, Stop, push_block, pop_block, then_flow, stop_at, stop_with_trap, unless_none, outside_transaction, inside_transaction, spawn_flow, join_flow, pair_writes, pair_names, pair_expressions, both_sides, left_values, end_block, execute, Skipped, BlockEnds, ElseBegins, SkipsOn, skip_line, execute_from, enter_body, entries, run_script, initial_state, start_function, set_joined, apply_answer, continue_after, resume, stop_point, ask_of, next_ask}

-- a script at this depth that has spawned so many children
record Fits (depth spawned : ℕ) : Type 0 where
  pub few : spawned < 4096
  pub deep : depth ≡ 4 → spawned ≡ 0

abbrev Has : ℕ → StopPoint → Type 0
Has depth (AtOperation op target lines t) = Fits depth t.spawned × AsksChild depth op
Has depth (AtEnd outcome) = Unit {0}

abbrev FlowHas : ℕ → Flow → Type 0
FlowHas depth (Next t) = Fits depth t.spawned
FlowHas depth (Skip t) = Fits depth t.spawned
FlowHas depth (Enter body t) = Fits depth t.spawned
FlowHas depth (Stop stop_point) = Has depth stop_point

module _ (depth : ℕ) where
  trap_have : {X : Type 0} (r : Result X TrapKind) (f : X → Flow) → ((x : X) → FlowHas depth (f x)) → FlowHas depth (then_flow r f)
  trap_have (Ok x) f all = all x
  trap_have (Err t) f all = tt

  branch_have : (b : Bool) (x y : Flow) → FlowHas depth x → FlowHas depth y → FlowHas depth (cond b x y)
  branch_have true x y one two = one
  branch_have false x y one two = two

  spawns_has : (fs : List Function) (x f : List ℕ) (lines : List Stmt) (t : State) → Fits depth t.spawned → (args : List Value) → FlowHas depth (spawn_flow fs depth x f lines t args)
  spawns_has fs x f lines t is args = at (eqb depth 4) (eqb (suc t.spawned) 4096) refl refl
    where
      at : (c d : Bool) → eqb depth 4 ≡ c → eqb (suc t.spawned) 4096 ≡ d → FlowHas depth (cond (c || d) (stop_with_trap trap.Spawn) (stop_at (One x) lines t (o.Spawn (suc t.spawned) (unwrap_or (find f fs) 0) args)))
      at true d e g = tt
      at false true e g = tt
      at false false e g =
          let few = is.few in
          let other = eqb-false (suc t.spawned) 4096 g in
          (is, record { shallow = eqb-false depth 4 e; from_one = omega arith; few = grind (arith, other) })

  joins_has : (x : List ℕ) (lines : List Stmt) (t : State) → Fits depth t.spawned → (v : Value) → FlowHas depth (join_flow x lines t v)
  joins_has x lines t is (Int (pos m)) = at (leb 1 m) (leb m t.spawned) refl refl
    where
      at : (c d : Bool) → leb 1 m ≡ c → leb m t.spawned ≡ d → FlowHas depth (cond (c && d) (stop_at (One x) lines t (o.Join m)) (stop_with_trap trap.Join))
      at true true e g =
          let one = leb-true 1 m e in
          let le = leb-true m t.spawned g in
          let few = is.few in
          (is, record { shallow = λ deep. (let none = is.deep deep in let no_way : ⊥ = omega (arith, one, le, none) in no_way); from_one = one; few = omega (arith, le, few) })
      at true false e g = tt
      at false d e g = tt
  joins_has x lines t is _ = tt

  none_have : (v : Value) (flow : Flow) → FlowHas depth flow → FlowHas depth (unless_none v flow)
  none_have Nothing flow is = tt
  none_have (Int m) flow is = is
  none_have (Text m) flow is = is

  outside_have : (names : Option (List (List ℕ))) (flow : Flow) → FlowHas depth flow → FlowHas depth (outside_transaction names flow)
  outside_have None flow is = is
  outside_have (Some names) flow is = tt

  inside_have : (names : Option (List (List ℕ))) (f : List (List ℕ) → Flow) → ((x : List (List ℕ)) → FlowHas depth (f x)) → FlowHas depth (inside_transaction names f)
  inside_have None f all = tt
  inside_have (Some names) f all = all names

  ends_has : (bs : List Block) (t : State) → Fits depth t.spawned → FlowHas depth (end_block bs t)
  ends_has [] t is = is
  ends_has (Branch ∷ bs) t is = is
  ends_has (Loop test body ∷ bs) t is = trap_have (and_then (eval test t.variables) as_condition) (λ b. cond b (Enter body t) (Next (pop_block t))) (λ b. branch_have b (Enter body t) (Next (pop_block t)) is is)

  execute_have : (fs : List Function) (l : Stmt) (lines : List Stmt) (t : State) → Fits depth t.spawned → FlowHas depth (execute fs depth l lines t)
  execute_have fs (s.Let x e) lines t is = trap_have (eval e t.variables) _ (λ v. is)
  execute_have fs (s.Read x e) lines t is = trap_have (and_then (eval e t.variables) to_name) _ (λ key. (is, tt))
  execute_have fs (s.Write e f) lines t is = trap_have (eval e t.variables) _ (λ m. trap_have (eval f t.variables) _ (λ v. trap_have (to_name m) _ (λ key. (is, tt))))
  execute_have fs (s.Spawn x f es) lines t is = trap_have (eval_all es t.variables) (spawn_flow fs depth x f lines t) (λ args. spawns_has fs x f lines t is args)
  execute_have fs (s.Join x e) lines t is = trap_have (eval e t.variables) (join_flow x lines t) (λ v. joins_has x lines t is v)
  execute_have fs (s.Push e f) lines t is = trap_have (eval e t.variables) _ (λ m. trap_have (eval f t.variables) _ (λ v. trap_have (to_name m) _ (λ queue. none_have v (stop_at Nowhere lines t (o.Push queue v)) (is, tt))))
  execute_have fs (s.Pop x e) lines t is = trap_have (and_then (eval e t.variables) to_name) _ (λ queue. (is, tt))
  execute_have fs (s.Begin pairs) lines t is = trap_have (and_then (eval_all (pair_expressions pairs) t.variables) to_names) _ (λ names. outside_have t.transaction (stop_at (Each (pair_names pairs)) lines t (o.Begin names)) (is, tt))
  execute_have fs (s.Commit x pairs) lines t is = trap_have (eval_all (both_sides pairs) t.variables) _ (λ vs. trap_have (to_names (left_values vs)) _ (λ ns. inside_have t.transaction (λ read. stop_at (One x) lines t (o.Commit read (pair_writes ns vs))) (λ read. (is, tt))))
  execute_have fs (s.If e) lines t is = trap_have (and_then (eval e t.variables) as_condition) _ (λ b. branch_have b (Next (push_block Branch t)) (Skip t) is is)
  execute_have fs s.Else lines t is = is
  execute_have fs (s.While e) lines t is = trap_have (and_then (eval e t.variables) as_condition) _ (λ b. branch_have b (Enter lines (push_block (Loop e lines) t)) (Skip t) is is)
  execute_have fs s.End lines t is = ends_has t.blocks t is
  execute_have fs (s.Return e) lines t is = trap_have (eval e t.variables) _ (λ v. tt)
  execute_have fs (s.ReadAll pairs) lines t is = trap_have (and_then (eval_all (pair_expressions pairs) t.variables) to_names) (λ keys. stop_at (Each (pair_names pairs)) lines t (o.ReadGroup keys)) (λ keys. (is, tt))

  module _ (fs : List Function) where
    go_have : (inner : List Stmt → State → StopPoint) → ((body : List Stmt) (t : State) → Fits depth t.spawned → Has depth (inner body t)) → (skipping : Option ℕ) (lines : List Stmt) (t : State) → Fits depth t.spawned → Has depth (execute_from fs depth inner skipping lines t)
    go_have inner all skipping [] t is = tt
    go_have inner all None (l ∷ ls) t is = at (execute fs depth l ls t) (execute_have fs l ls t is) (λ u is. go_have inner all None ls u is) (λ u is. go_have inner all (Some 0) ls u is)
      where
        at : (flow : Flow) → FlowHas depth flow → ((u : State) → Fits depth u.spawned → Has depth (execute_from fs depth inner None ls u)) → ((u : State) → Fits depth u.spawned → Has depth (execute_from fs depth inner (Some 0) ls u))
            → Has depth (elim flow [ Next u ↦ execute_from fs depth inner None ls u | Skip u ↦ execute_from fs depth inner (Some 0) ls u | Enter body u ↦ inner body u | Stop stop_point ↦ stop_point ])
        at (Next u) is next skip = next u is
        at (Skip u) is next skip = skip u is
        at (Enter body u) is next skip = all body u is
        at (Stop stop_point) is next skip = is
    go_have inner all (Some m) (l ∷ ls) t is = at (skip_line m l) (λ u is. go_have inner all None ls u is) (λ j. go_have inner all (Some j) ls t is)
      where
        at : (p : Skipped) → ((u : State) → Fits depth u.spawned → Has depth (execute_from fs depth inner None ls u)) → ((j : ℕ) → Has depth (execute_from fs depth inner (Some j) ls t))
            → Has depth (elim p [ BlockEnds ↦ execute_from fs depth inner None ls t | ElseBegins ↦ execute_from fs depth inner None ls (push_block Branch t) | SkipsOn j ↦ execute_from fs depth inner (Some j) ls t ])
        at BlockEnds next skip = next t is
        at ElseBegins next skip = next (push_block Branch t) is
        at (SkipsOn j) next skip = skip j

    enter_have : (left : ℕ) (body : List Stmt) (t : State) → Fits depth t.spawned → Has depth (enter_body fs depth left body t)
    enter_have zero body t is = tt
    enter_have (suc left) body t is = go_have (enter_body fs depth left) (enter_have left) None body t is

    run_have : (lines : List Stmt) (t : State) → Fits depth t.spawned → Has depth (run_script fs depth lines t)
    run_have lines t is = go_have (enter_body fs depth entries) (enter_have entries) None lines t is

-- The start of a function, and an answer.

abbrev ResultHas : ℕ → Result State TrapKind → Type 0
ResultHas depth (Ok t) = Fits depth t.spawned
ResultHas depth (Err why) = Unit {0}

abbrev AnsweredHas : ℕ → Option (Result State TrapKind) → Type 0
AnsweredHas depth None = Unit {0}
AnsweredHas depth (Some r) = ResultHas depth r

abbrev MayHave : ℕ → Option StopPoint → Type 0
MayHave depth None = Unit {0}
MayHave depth (Some stop_point) = Has depth stop_point

module _ (depth : ℕ) where
  still : (old new : ℕ) → new ≡ old → Fits depth old → Fits depth new
  still old new e is = subst (Fits depth) (sym e) is

  if_has : (b : Bool) (r : Result State TrapKind) → (b ≡ true → ResultHas depth r) → AnsweredHas depth (cond b (Some r) None)
  if_has true r is = is refl
  if_has false r is = tt

  joined_has : (target : Target) (outcome : Outcome) (t : State) → Fits depth t.spawned → ResultHas depth (set_joined target outcome t)
  joined_has target (Good v) t is = still t.spawned _ (set_target_spawned target v t) is
  joined_has target (Trap why) t is = tt

  answered_has : (op : Op) (target : Target) (x : Answer) (t : State) → Fits depth t.spawned → AsksChild depth op → AnsweredHas depth (apply_answer op target x t)
  answered_has (o.Read key) target (a.Value v) t is child = still t.spawned _ (set_target_spawned target v t) is
  answered_has (o.Write key value) target a.Done t is child = is
  answered_has (o.Spawn ordinal f args) target (a.Spawned m) t is child =
      if_has (eqb m ordinal) _ (λ e.
      let same = eqb-true m ordinal e in
      let few = child.few in
      record { few = omega (arith, same, few); deep = λ deep. absurd (child.shallow deep) })
  answered_has (o.Join ordinal) target (a.Joined outcome) t is child = joined_has target outcome t is
  answered_has (o.Push queue value) target a.Done t is child = is
  answered_has (o.Pop queue) target (a.Value v) t is child = still t.spawned _ (set_target_spawned target v t) is
  answered_has (o.Begin names) target (a.Values vs) t is child = if_has (eqb (length vs) (length names)) _ (λ e. still t.spawned _ (set_targets_spawned target vs t) is)
  answered_has (o.Commit names writes) target (a.Committed good) t is child = still t.spawned _ (set_target_spawned target _ t) is
  answered_has (o.ReadGroup keys) target (a.Values vs) t is child = if_has (eqb (length vs) (length keys)) _ (λ e. still t.spawned _ (set_targets_spawned target vs t) is)
  answered_has _ target _ t is child = tt

  module _ (fs : List Function) where
    continued_has : (lines : List Stmt) (r : Option (Result State TrapKind)) → AnsweredHas depth r → MayHave depth (option_map (continue_after fs depth lines) r)
    continued_has lines None is = tt
    continued_has lines (Some (Ok t)) is = run_have depth fs lines t is
    continued_has lines (Some (Err why)) is = tt

    resume_has : (x : Answer) (st : Option StopPoint) → MayHave depth st → MayHave depth (option_and_then (resume fs depth x) st)
    resume_has x None is = tt
    resume_has x (Some (AtOperation op target lines t)) is = continued_has lines (apply_answer op target x t) (answered_has op target x t is.0 is.1)
    resume_has x (Some (AtEnd outcome)) is = tt

    begins_has : (args : List Value) (f : Option Function) → MayHave depth (start_function fs depth args f)
    begins_has args None = tt
    begins_has args (Some f) = at (eqb (length f.params) (length args))
      where
        at : (b : Bool) → MayHave depth (cond b (Some (run_script fs depth f.lines (initial_state f.params args))) None)
        at true = run_have depth fs f.lines (initial_state f.params args) (still 0 _ (set_each_spawned f.params args _) (record { few = omega arith; deep = λ deep. refl }))
        at false = tt

    standing_has : (f : ℕ) (args : List Value) (answers : List Answer) → MayHave depth (stop_point fs f args depth answers)
    standing_has f args [] = begins_has args (function_at f fs)
    standing_has f args (x ∷ xs) = resume_has x (stop_point fs f args depth xs) (standing_has f args xs)

    asked_child : (f : ℕ) (args : List Value) (answers : List Answer) (op : Op) → next_ask fs f args depth answers ≡ Some (k.Op op) → AsksChild depth op
    asked_child f args answers op is = at (stop_point fs f args depth answers) (standing_has f args answers) is
      where
        at : (st : Option StopPoint) → MayHave depth st → option_map ask_of st ≡ Some (k.Op op) → AsksChild depth op
        at None has e = let no_way : None ≡ Some (k.Op op) = e in cc
        at (Some (AtOperation own target lines t)) has e =
            let there : Some (k.Op own) ≡ Some (k.Op op) = e in
            let same : own ≡ op = cc in subst (AsksChild depth) same has.1
        at (Some (AtEnd outcome)) has e = let no_way : Some (k.Done outcome) ≡ Some (k.Op op) = e in cc

-- So the child has a path.

path_there : (path : List ℕ) (ordinal : ℕ) → IsPath path → IsChild (length path) ordinal → child_path path ordinal ≡ Some (child path ordinal)
path_there [] ordinal path is = let no_way : false ≡ true = path in cc
path_there (n ∷ ns) ordinal path is =
    let short = ltb-true (length ns) 4 (and_parts (is_request n && are_ordinals ns) (ltb (length ns) 4) path).1 in
    let shallow = is.shallow in
    let one = is.from_one in
    let few = is.few in
    let room : suc (length ns) < 4 = grind (arith, shallow, short) in
    ap (λ b. if b then Some (n ∷ ns ++ ordinal ∷ []) else None)
    (and_from (is_ordinal ordinal) (ltb (suc (length ns)) 4) (and_from (ltb 0 ordinal) (ltb ordinal 4096) (lt-ltb 0 ordinal one) (lt-ltb ordinal 4096 few)) (lt-ltb (suc (length ns)) 4 room))

has_path : (path : List ℕ) (op : Op) → IsPath path → AsksChild (length path) op → HasPath path op
has_path path (o.Spawn ordinal f args) ok child = path_there path ordinal ok child
has_path path (o.Join ordinal) ok child = path_there path ordinal ok child
has_path path _ ok child = tt

pub children_have_paths : ChildrenHavePaths
children_have_paths fs function args path answers op ok next_ask = has_path path op ok (asked_child (length path) fs function args answers op next_ask)
