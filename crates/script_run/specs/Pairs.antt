-- Lists that are worked out one by one, up to the first trap.
use Rattle.std.specs.Prelude.{List, [], ◌∷◌, ℕ, Result, Ok}
use Rattle.lb_base.specs.declared.value.Value.{Value}
use Rattle.lb_base.specs.declared.value.TrapKind.{TrapKind}
use Rattle.boki_types.specs.declared.expr.Expr.{Expr}
use Rattle.boki_model.specs.Values.{and_then, eval, to_name}

abbrev pub try_map : {X Y : Type 0} → (X → Result Y TrapKind) → List X → Result (List Y) TrapKind
try_map f [] = Ok []
try_map f (x ∷ xs) = and_then (f x) (λ y. and_then (try_map f xs) (λ ys. Ok (y ∷ ys)))

abbrev pub value_of : List (List ℕ × Value) → Expr → Result Value TrapKind
value_of variables x = eval x variables

-- the value of the expression beside a variable
abbrev pub second_of : List (List ℕ × Value) → List ℕ × Expr → Result Value TrapKind
second_of variables p = eval p.1 variables

-- both sides of a pair, the left one first
abbrev pub sides_of : List (List ℕ × Value) → Expr × Expr → Result (Value × Value) TrapKind
sides_of variables p = and_then (eval p.0 variables) (λ v. and_then (eval p.1 variables) (λ w. Ok (v, w)))

-- a name with what is written to it
abbrev pub named_of : Value × Value → Result (List ℕ × Value) TrapKind
named_of p = and_then (to_name p.0) (λ name. Ok (name, p.1))
