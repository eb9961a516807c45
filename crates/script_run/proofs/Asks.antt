-- A line that asks an operation: its flow is that of the operation, or of its trap.
use Rattle.std.proofs.Common.{◌≡◌, ◌∙◌, ap, sym, refl, ℕ, suc, ◌==◌, ◌||◌, ◌&&◌, nat_le, List, [], ◌∷◌, Bool, true, false, cond, Option, Some, None, Result, Ok, Err, pos, negsuc}
use Rattle.lb_base.specs.declared.value.Value.{Value}
use Rattle.lb_base.specs.declared.value.Value.TheVariants.{Int, Text, Nothing}
use Rattle.lb_base.specs.declared.value.TrapKind.{TrapKind}
use Rattle.lb_base.specs.declared.value.TrapKind.TheVariants as trap
use Rattle.boki_types.specs.declared.expr.Expr.{Expr}
use Rattle.boki_types.specs.declared.program.Stmt.{Stmt}
use Rattle.boki_types.specs.declared.program.Stmt.TheVariants as s
use Rattle.boki_types.specs.declared.program.Function.{Function}
use Rattle.boki_types.specs.declared.operation.Op.{Op}
use Rattle.boki_types.specs.declared.operation.Op.TheVariants as o
use Rattle.boki_model.specs.Values.{and_then, eval, eval_all, to_name, to_names}
use Rattle.boki_model.specs.Script as script
use Rattle.boki_model.specs.Script.{then_flow, stop_at, both_sides, left_values, pair_writes, pair_expressions}
use Rattle.boki_types.specs.declared.operation.Ask.{Ask}
use Rattle.script_run.specs.declared.fault.EvalFault.{EvalFault}
use Rattle.script_run.specs.declared.fault.EvalFault.TheVariants as halt
use Rattle.script_run.specs.Computes.{Computes}
use Rattle.script_run.specs.Flows.{HasFlow}
use Rattle.script_run.specs.Standing.{target_of}
use Rattle.script_run.specs.Pairs.{try_map, value_of, second_of, sides_of, named_of}
use Rattle.script_run.specs.Asking.{pushed_of, spawned_of, joined_of, begun_of, committed_of, operation_of, AsksOperation}

abbrev Entries : Type 0
Entries = List (List ℕ × Value)

pub all_each : (es : List Expr) (vs : Entries) → eval_all es vs ≡ try_map (value_of vs) es
all_each [] vs = refl
all_each (e ∷ es) vs = ap (λ r. and_then (eval e vs) (λ v. and_then r (λ ws. Ok (v ∷ ws)))) (all_each es vs)

seconds_each : (pairs : List (List ℕ × Expr)) (vs : Entries) → eval_all (pair_expressions pairs) vs ≡ try_map (second_of vs) pairs
seconds_each [] vs = refl
seconds_each (p ∷ ps) vs = ap (λ r. and_then (eval p.1 vs) (λ v. and_then r (λ ws. Ok (v ∷ ws)))) (seconds_each ps vs)

names_each : (values : List Value) → to_names values ≡ try_map to_name values
names_each [] = refl
names_each (v ∷ vs) = ap (λ r. and_then (to_name v) (λ n. and_then r (λ ns. Ok (n ∷ ns)))) (names_each vs)

-- pairs, their sides in turn
abbrev flat : List (Value × Value) → List Value
flat [] = []
flat (p ∷ ps) = p.0 ∷ p.1 ∷ flat ps

abbrev flattened : Result (List (Value × Value)) TrapKind → Result (List Value) TrapKind
flattened r = and_then r (λ ps. Ok (flat ps))

one_pair : (a b : Result Value TrapKind) (r : Result (List (Value × Value)) TrapKind) → and_then a (λ v. and_then (and_then b (λ w. and_then (flattened r) (λ ws. Ok (w ∷ ws)))) (λ ws. Ok (v ∷ ws))) ≡ flattened (and_then (and_then a (λ v. and_then b (λ w. Ok (v, w)))) (λ p. and_then r (λ ps. Ok (p ∷ ps))))
one_pair (Ok v) (Ok w) (Ok ps) = refl
one_pair (Ok v) (Ok w) (Err why) = refl
one_pair (Ok v) (Err why) r = refl
one_pair (Err why) b r = refl

sides_each : (pairs : List (Expr × Expr)) (vs : Entries) → eval_all (both_sides pairs) vs ≡ flattened (try_map (sides_of vs) pairs)
sides_each [] vs = refl
sides_each (p ∷ ps) vs =
    ap (λ r. and_then (eval p.0 vs) (λ v. and_then (and_then (eval p.1 vs) (λ w. and_then r (λ ws. Ok (w ∷ ws)))) (λ ws. Ok (v ∷ ws)))) (sides_each ps vs)
    ∙ one_pair (eval p.0 vs) (eval p.1 vs) (try_map (sides_of vs) ps)

abbrev written : List Value → Result Entries TrapKind
written values = and_then (to_names (left_values values)) (λ names. Ok (pair_writes names values))

one_write : (n : Result (List ℕ) TrapKind) (v w : Value) (values : List Value) (r : Result (List (List ℕ)) TrapKind) → and_then (and_then n (λ m. and_then r (λ ns. Ok (m ∷ ns)))) (λ names. Ok (pair_writes names (v ∷ w ∷ values))) ≡ and_then (and_then n (λ m. Ok (m, w))) (λ p. and_then (and_then r (λ ns. Ok (pair_writes ns values))) (λ ps. Ok (p ∷ ps)))
one_write (Ok m) v w values (Ok ns) = refl
one_write (Ok m) v w values (Err why) = refl
one_write (Err why) v w values r = refl

writes_each : (ps : List (Value × Value)) → written (flat ps) ≡ try_map named_of ps
writes_each [] = refl
writes_each (p ∷ ps) =
    one_write (to_name p.0) p.0 p.1 (flat ps) (to_names (left_values (flat ps)))
    ∙ ap (λ r. and_then (and_then (to_name p.0) (λ m. Ok (m, p.1))) (λ q. and_then r (λ qs. Ok (q ∷ qs)))) (writes_each ps)

-- flows of what gives a value or traps
or_then : {X Y : Type 0} (r : Result X TrapKind) (f : X → Result Y TrapKind) (g : Y → script.Flow) → then_flow (and_then r f) g ≡ then_flow r (λ x. then_flow (f x) g)
or_then (Ok x) f g = refl
or_then (Err why) f g = refl

or_each : {X : Type 0} (r : Result X TrapKind) (f g : X → script.Flow) → ((x : X) → f x ≡ g x) → then_flow r f ≡ then_flow r g
or_each (Ok x) f g same = same x
or_each (Err why) f g same = refl

named_flow : (r : Result (List ℕ) TrapKind) (v : Value) (f : List ℕ → Value → script.Flow) (h : List ℕ → Value → Result Op TrapKind) (g : Op → script.Flow) → ((n : List ℕ) (w : Value) → f n w ≡ then_flow (h n w) g) → then_flow r (λ n. f n v) ≡ then_flow (and_then {X = List ℕ × Value} (and_then r (λ n. Ok (n, v))) (λ p. h p.0 p.1)) g
named_flow (Ok n) v f h g same = same n v
named_flow (Err why) v f h g same = refl

-- a name and a value
both_flow : (a b : Result Value TrapKind) (f : List ℕ → Value → script.Flow) (h : List ℕ → Value → Result Op TrapKind) (g : Op → script.Flow) → ((n : List ℕ) (w : Value) → f n w ≡ then_flow (h n w) g) → then_flow a (λ n. then_flow b (λ v. then_flow (to_name n) (λ name. f name v))) ≡ then_flow (and_then {X = List ℕ × Value} (and_then a (λ n. and_then b (λ v. and_then (to_name n) (λ name. Ok (name, v))))) (λ p. h p.0 p.1)) g
both_flow (Ok n) (Ok v) f h g same = named_flow (to_name n) v f h g same
both_flow (Ok n) (Err why) f h g same = refl
both_flow (Err why) b f h g same = refl

push_flow : (g : Op → script.Flow) (n : List ℕ) (v : Value) → script.unless_none v (g (o.Push n v)) ≡ then_flow (pushed_of n v) g
push_flow g n (Int m) = refl
push_flow g n (Text t) = refl
push_flow g n Nothing = refl

chosen : (b : Bool) (why : TrapKind) (op : Op) (g : Op → script.Flow) → cond b (script.stop_with_trap why) (g op) ≡ then_flow (cond b (Err why) (Ok op)) g
chosen true why op g = refl
chosen false why op g = refl

chosen_not : (b : Bool) (why : TrapKind) (op : Op) (g : Op → script.Flow) → cond b (g op) (script.stop_with_trap why) ≡ then_flow (cond b (Ok op) (Err why)) g
chosen_not true why op g = refl
chosen_not false why op g = refl

join_flow : (x : List ℕ) (lines : List Stmt) (t : script.State) (v : Value) → script.join_flow x lines t v ≡ then_flow (joined_of t.spawned v) (stop_at (script.One x) lines t)
join_flow x lines t (Int (pos n)) = chosen_not (nat_le 1 n && nat_le n t.spawned) trap.Join (o.Join n) (stop_at (script.One x) lines t)
join_flow x lines t (Int (negsuc n)) = refl
join_flow x lines t (Text s) = refl
join_flow x lines t Nothing = refl

begin_flow : (read : Option (List (List ℕ))) (names : List (List ℕ)) (g : Op → script.Flow) → script.outside_transaction read (g (o.Begin names)) ≡ then_flow (begun_of read names) g
begin_flow None names g = refl
begin_flow (Some read) names g = refl

commit_names : (r : Result (List (List ℕ)) TrapKind) (values : List Value) (read : Option (List (List ℕ))) (g : Op → script.Flow) → then_flow r (λ ns. script.inside_transaction read (λ m. g (o.Commit m (pair_writes ns values)))) ≡ then_flow (and_then r (λ ns. Ok (pair_writes ns values))) (λ ws. then_flow (committed_of read ws) g)
commit_names (Ok ns) values None g = refl
commit_names (Ok ns) values (Some m) g = refl
commit_names (Err why) values read g = refl

commit_flow : (r : Result (List (Value × Value)) TrapKind) (read : Option (List (List ℕ))) (g : Op → script.Flow) → then_flow (flattened r) (λ values. then_flow (to_names (left_values values)) (λ ns. script.inside_transaction read (λ m. g (o.Commit m (pair_writes ns values))))) ≡ then_flow (and_then (and_then r (try_map named_of)) (committed_of read)) g
commit_flow (Ok ps) read g =
    commit_names (to_names (left_values (flat ps))) (flat ps) read g
    ∙ ap (λ r. then_flow r (λ ws. then_flow (committed_of read ws) g)) (writes_each ps)
    ∙ sym (or_then (try_map named_of ps) (committed_of read) g)
commit_flow (Err why) read g = refl

-- the names that values give, then an operation of them
names_flow : (r : Result (List Value) TrapKind) (h : List (List ℕ) → Result Op TrapKind) (f : List (List ℕ) → script.Flow) (g : Op → script.Flow) → ((names : List (List ℕ)) → f names ≡ then_flow (h names) g) → then_flow (and_then r to_names) f ≡ then_flow (and_then (and_then r (try_map to_name)) h) g
names_flow (Ok values) h f g same =
    ap (λ r. then_flow r f) (names_each values) ∙ or_each (try_map to_name values) f (λ names. then_flow (h names) g) same ∙ sym (or_then (try_map to_name values) h g)
names_flow (Err why) h f g same = refl

pub asks_operation : (fs : List Function) (depth : ℕ) (line : Stmt) (rest : List Stmt) (t : script.State) → AsksOperation line → script.execute fs depth line rest t ≡ then_flow (operation_of fs depth line t.variables t.spawned t.transaction) (stop_at (target_of (Some line)) rest t)
asks_operation fs depth (s.Let x e) rest t asking = absurd asking
asks_operation fs depth (s.Read x e) rest t asking = sym (or_then (and_then (eval e t.variables) to_name) (λ key. Ok (o.Read key)) (stop_at (script.One x) rest t))
asks_operation fs depth (s.Write e f) rest t asking =
    both_flow (eval e t.variables) (eval f t.variables) (λ key v. stop_at script.Nowhere rest t (o.Write key v)) (λ key v. Ok (o.Write key v)) (stop_at script.Nowhere rest t) (λ n w. refl)
asks_operation fs depth (s.Spawn x f es) rest t asking =
    ap (λ r. then_flow r (script.spawn_flow fs depth x f rest t)) (all_each es t.variables)
    ∙ or_each (try_map (value_of t.variables) es) _ _ (λ args. chosen ((depth == 4) || (suc t.spawned == 4096)) trap.Spawn _ (stop_at (script.One x) rest t))
    ∙ sym (or_then (try_map (value_of t.variables) es) (spawned_of fs depth f t.spawned) (stop_at (script.One x) rest t))
asks_operation fs depth (s.Join x e) rest t asking =
    or_each (eval e t.variables) (script.join_flow x rest t) _ (join_flow x rest t) ∙ sym (or_then (eval e t.variables) (joined_of t.spawned) (stop_at (script.One x) rest t))
asks_operation fs depth (s.Push e f) rest t asking =
    both_flow (eval e t.variables) (eval f t.variables) (λ queue v. script.unless_none v (stop_at script.Nowhere rest t (o.Push queue v))) pushed_of (stop_at script.Nowhere rest t) (push_flow (stop_at script.Nowhere rest t))
asks_operation fs depth (s.Pop x e) rest t asking = sym (or_then (and_then (eval e t.variables) to_name) (λ queue. Ok (o.Pop queue)) (stop_at (script.One x) rest t))
asks_operation fs depth (s.Begin pairs) rest t asking =
    ap (λ r. then_flow (and_then r to_names) (λ names. script.outside_transaction t.transaction (stop_at (script.Each (script.pair_names pairs)) rest t (o.Begin names)))) (seconds_each pairs t.variables)
    ∙ names_flow (try_map (second_of t.variables) pairs) (begun_of t.transaction) _ (stop_at (script.Each (script.pair_names pairs)) rest t) (λ names. begin_flow t.transaction names (stop_at (script.Each (script.pair_names pairs)) rest t))
asks_operation fs depth (s.Commit x pairs) rest t asking =
    ap (λ r. then_flow r (λ values. then_flow (to_names (left_values values)) (λ ns. script.inside_transaction t.transaction (λ m. stop_at (script.One x) rest t (o.Commit m (pair_writes ns values)))))) (sides_each pairs t.variables)
    ∙ commit_flow (try_map (sides_of t.variables) pairs) t.transaction (stop_at (script.One x) rest t)
asks_operation fs depth (s.If e) rest t asking = absurd asking
asks_operation fs depth s.Else rest t asking = absurd asking
asks_operation fs depth (s.While e) rest t asking = absurd asking
asks_operation fs depth s.End rest t asking = absurd asking
asks_operation fs depth (s.Return e) rest t asking = absurd asking
asks_operation fs depth (s.ReadAll pairs) rest t asking =
    ap (λ r. then_flow (and_then r to_names) (λ keys. stop_at (script.Each (script.pair_names pairs)) rest t (o.ReadGroup keys))) (seconds_each pairs t.variables)
    ∙ names_flow (try_map (second_of t.variables) pairs) (λ keys. Ok (o.ReadGroup keys)) _ (stop_at (script.Each (script.pair_names pairs)) rest t) (λ names. refl)

-- a line that traps
pub leads_err : (flow : script.Flow) (r : Result Op TrapKind) (g : Op → script.Flow) (lines : List Stmt) (at : ℕ) (ask : Ask) (t : script.State) (h : EvalFault) → flow ≡ then_flow r g → Computes r (Err h) → HasFlow flow lines at ask t (Err h)
leads_err flow r g lines at ask t (halt.Trap why) is gives = is ∙ ap (λ e. then_flow e g) gives
leads_err flow r g lines at ask t halt.Memory is gives = tt
