-- Operators, as they are judged: pieces that several of them share.
use Rattle.std.specs.Prelude.{Bool, true, false, cond, Option, Some, None, Result, Ok, Err, ℤ, int_lt}
use Rattle.lb_base.specs.declared.value.Value.{Value}
use Rattle.lb_base.specs.declared.value.Value.TheVariants.{Int, Text}
use Rattle.lb_base.specs.declared.value.TrapKind.{TrapKind}
use Rattle.lb_base.specs.declared.value.TrapKind.TheVariants as trap
use Rattle.boki_types.specs.declared.expr.BinOp.{BinOp}
use Rattle.boki_types.specs.declared.expr.BinOp.TheVariants as op
use Rattle.boki_model.specs.Maps.{before}
use Rattle.boki_model.specs.Values.{and_then, bool_value, as_condition, apply_operator}

-- two integers, or two texts by their bytes
abbrev pub is_less : Value → Value → Result Bool TrapKind
is_less (Int m) (Int n) = Ok (int_lt m n)
is_less (Text s) (Text t) = Ok (before s t)
is_less _ _ = Err trap.Kind

abbrev pub integers_of : Value → Value → Result (ℤ × ℤ) TrapKind
integers_of (Int m) (Int n) = Ok (m, n)
integers_of _ _ = Err trap.Kind

-- an integer, where it kept the range of 64 bits
abbrev pub ranged : Option ℤ → Result Value TrapKind
ranged (Some n) = Ok (Int n)
ranged None = Err trap.Overflow

abbrev pub IsArithmetic : BinOp → Type 0
IsArithmetic op.Add = Unit {0}
IsArithmetic op.Sub = Unit {0}
IsArithmetic op.Mul = Unit {0}
IsArithmetic op.Div = Unit {0}
IsArithmetic op.Rem = Unit {0}
IsArithmetic _ = ⊥

-- what the left operand decides alone
abbrev pub short_circuit_of : BinOp → Value → Result (Option Value) TrapKind
short_circuit_of op.Or v = and_then (as_condition v) (λ c. Ok (cond c (Some (bool_value true)) None))
short_circuit_of op.And v = and_then (as_condition v) (λ c. Ok (cond c None (Some (bool_value false))))
short_circuit_of _ v = Ok None

-- what both make, where it didn't
abbrev pub applied_of : BinOp → Value → Value → Result Value TrapKind
applied_of op.Or v w = and_then (as_condition w) (λ c. Ok (bool_value c))
applied_of op.And v w = and_then (as_condition w) (λ c. Ok (bool_value c))
applied_of o v w = apply_operator o v w

abbrev pub unless : Option Value → Result Value TrapKind → Result Value TrapKind
unless (Some v) r = Ok v
unless None r = r
