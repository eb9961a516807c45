-- What a line asks, beside what the line's flow is.
use Rattle.std.specs.Prelude.{ℕ, suc, ◌==◌, ◌&&◌, ◌||◌, nat_le, cond, List, ◌<◌, Option, Some, None, unwrap_or, Result, Ok, Err, pos}
use Rattle.lb_base.specs.declared.value.Value.{Value}
use Rattle.lb_base.specs.declared.value.Value.TheVariants.{Int, Nothing}
use Rattle.lb_base.specs.declared.value.TrapKind.{TrapKind}
use Rattle.lb_base.specs.declared.value.TrapKind.TheVariants as trap
use Rattle.boki_types.specs.declared.expr.Expr.{Expr}
use Rattle.boki_types.specs.declared.program.Stmt.{Stmt}
use Rattle.boki_types.specs.declared.program.Stmt.TheVariants as s
use Rattle.boki_types.specs.declared.program.Function.{Function}
use Rattle.boki_types.specs.declared.operation.Op.{Op}
use Rattle.boki_types.specs.declared.operation.Op.TheVariants as o
use Rattle.boki_types.specs.Finding.{find}
use Rattle.boki_model.specs.Values.{and_then, eval, to_name}
use Rattle.script_run.specs.Pairs.{try_map, value_of, second_of, sides_of, named_of}

-- a name and a value, of which the name is judged once both are worked out
abbrev pub name_and_value_of : Expr → Expr → List (List ℕ × Value) → Result (List ℕ × Value) TrapKind
name_and_value_of e f vs = and_then (eval e vs) (λ n. and_then (eval f vs) (λ v. and_then (to_name n) (λ name. Ok (name, v))))

abbrev pub pushed_of : List ℕ → Value → Result Op TrapKind
pushed_of queue Nothing = Err trap.Kind
pushed_of queue v = Ok (o.Push queue v)

abbrev pub spawned_of : List Function → ℕ → List ℕ → ℕ → List Value → Result Op TrapKind
spawned_of fs depth f spawned args =
    cond ((depth == 4) || (suc spawned == 4096)) (Err trap.Spawn) (Ok (o.Spawn (suc spawned) (unwrap_or (find f fs) 0) args))

abbrev pub joined_of : ℕ → Value → Result Op TrapKind
joined_of spawned (Int (pos n)) = cond (nat_le 1 n && nat_le n spawned) (Ok (o.Join n)) (Err trap.Join)
joined_of spawned _ = Err trap.Join

abbrev pub begun_of : Option (List (List ℕ)) → List (List ℕ) → Result Op TrapKind
begun_of None names = Ok (o.Begin names)
begun_of (Some read) names = Err trap.Txn

abbrev pub committed_of : Option (List (List ℕ)) → List (List ℕ × Value) → Result Op TrapKind
committed_of None writes = Err trap.Txn
committed_of (Some read) writes = Ok (o.Commit read writes)

-- the line asks an operation
abbrev pub AsksOperation : Stmt → Type 0
AsksOperation (s.Let x e) = ⊥
AsksOperation (s.If e) = ⊥
AsksOperation s.Else = ⊥
AsksOperation (s.While e) = ⊥
AsksOperation s.End = ⊥
AsksOperation (s.Return e) = ⊥
AsksOperation _ = Unit {0}

-- which one, by the variables, the children spawned and the names that the open transaction has read
abbrev pub operation_of : List Function → ℕ → Stmt → List (List ℕ × Value) → ℕ → Option (List (List ℕ)) → Result Op TrapKind
operation_of fs depth (s.Read x e) vs n read = and_then (and_then (eval e vs) to_name) (λ key. Ok (o.Read key))
operation_of fs depth (s.Write e f) vs n read = and_then (name_and_value_of e f vs) (λ p. Ok (o.Write p.0 p.1))
operation_of fs depth (s.Spawn x f es) vs n read = and_then (try_map (value_of vs) es) (spawned_of fs depth f n)
operation_of fs depth (s.Join x e) vs n read = and_then (eval e vs) (joined_of n)
operation_of fs depth (s.Push e f) vs n read = and_then (name_and_value_of e f vs) (λ p. pushed_of p.0 p.1)
operation_of fs depth (s.Pop x e) vs n read = and_then (and_then (eval e vs) to_name) (λ queue. Ok (o.Pop queue))
operation_of fs depth (s.Begin pairs) vs n read = and_then (and_then (try_map (second_of vs) pairs) (try_map to_name)) (begun_of read)
operation_of fs depth (s.Commit x pairs) vs n read = and_then (and_then (try_map (sides_of vs) pairs) (try_map named_of)) (committed_of read)
operation_of fs depth (s.ReadAll pairs) vs n read = and_then (and_then (try_map (second_of vs) pairs) (try_map to_name)) (λ keys. Ok (o.ReadGroup keys))
operation_of fs depth _ vs n read = Err trap.Kind

-- a child's ordinal is below 4,096
abbrev pub HasSmallOrdinal : Op → Type 0
HasSmallOrdinal (o.Spawn ordinal f args) = ordinal < 4096
HasSmallOrdinal _ = Unit {0}
