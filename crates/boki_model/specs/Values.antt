-- The statement of the central theorem rests on this file.
-- Values of scripts, and what operators make of them. Where an operator can't answer, it gives the kind of the trap. Both
-- operands are worked out before an operator judges them: first their kinds, then a zero divisor, then the range.
use Rattle.std.specs.Prelude.{ℕ, ◌==◌, ◌&&◌, not, nat_le, Bool, true, false, if◌then◌else◌, List, [], ◌∷◌, ◌++◌, length, unwrap_or, Result, Ok, Err, bytes_eq, ℤ, pos, negsuc, ◌+ℤ◌, ◌-ℤ◌, ◌*ℤ◌, int_lt, int_le, int_div, int_rem}
use Rattle.std.specs.Fmt.{signed_decimal}
use Rattle.lb_base.specs.declared.value.Value.{Value}
use Rattle.lb_base.specs.declared.value.Value.TheVariants.{Int, Text, Nothing}
use Rattle.lb_base.specs.declared.value.TrapKind.{TrapKind}
use Rattle.lb_base.specs.declared.value.TrapKind.TheVariants as trap
use Rattle.boki_types.specs.declared.expr.BinOp.{BinOp}
use Rattle.boki_types.specs.declared.expr.BinOp.TheVariants as operator
use Rattle.boki_types.specs.declared.expr.Expr.{Expr, more_of-Expr, end_of-Expr}
use Rattle.boki_types.specs.declared.expr.Expr.TheVariants as expr
use Rattle.boki_model.specs.Bodies.{is_i64}
use Rattle.boki_model.specs.Maps.{before, get}
use Rattle.boki_model.specs.declared.limits.TheConstants.{MAX_TEXT_BYTES, MAX_NAME_BYTES}

-- what a computation gives: a value, or a trap
abbrev pub and_then : {X Y : Type 0} → Result X TrapKind → (X → Result Y TrapKind) → Result Y TrapKind
and_then (Ok x) f = f x
and_then (Err t) f = Err t

-- two integers are the same, and two values are
abbrev pub same_int : ℤ → ℤ → Bool
same_int (pos m) (pos n) = m == n
same_int (negsuc m) (negsuc n) = m == n
same_int _ _ = false

abbrev pub same_value : Value → Value → Bool
same_value (Int m) (Int n) = same_int m n
same_value (Text s) (Text t) = bytes_eq s t
same_value Nothing Nothing = true
same_value _ _ = false

abbrev pub bool_value : Bool → Value
bool_value true = Int (pos 1)
bool_value false = Int (pos 0)

-- a condition is an integer, and 0 is false
abbrev pub as_condition : Value → Result Bool TrapKind
as_condition (Int n) = Ok (not (same_int n (pos 0)))
as_condition _ = Err trap.Kind

abbrev pub checked_int : ℤ → Result Value TrapKind
checked_int n = if is_i64 n then Ok (Int n) else Err trap.Overflow

-- a text of at most 256 bytes
abbrev pub checked_text : List ℕ → Result Value TrapKind
checked_text t = if nat_le (length t) MAX_TEXT_BYTES then Ok (Text t) else Err trap.Text

-- division truncates toward zero; the least integer by -1 leaves the range in both
abbrev pub checked_divide : (ℤ → ℤ → ℤ) → ℤ → ℤ → Result Value TrapKind
checked_divide f m n = if same_int n (pos 0) then Err trap.Divide else if is_i64 (int_div m n) then Ok (Int (f m n)) else Err trap.Overflow

abbrev pub on_integers : (ℤ → ℤ → Result Value TrapKind) → Value → Value → Result Value TrapKind
on_integers f (Int m) (Int n) = f m n
on_integers f _ _ = Err trap.Kind

abbrev pub concat_texts : Value → Value → Result Value TrapKind
concat_texts (Text s) (Text t) = checked_text (s ++ t)
concat_texts _ _ = Err trap.Kind

-- two integers, or two texts by their bytes
abbrev pub compare_values : (ℤ → ℤ → Bool) → (List ℕ → List ℕ → Bool) → Value → Value → Result Value TrapKind
compare_values f g (Int m) (Int n) = Ok (bool_value (f m n))
compare_values f g (Text s) (Text t) = Ok (bool_value (g s t))
compare_values f g _ _ = Err trap.Kind

-- `and` and `or` judge the left operand first, and stop there where it decides
abbrev pub short_circuit : Bool → Result Value TrapKind → Bool → Result Value TrapKind
short_circuit true right true = Ok (bool_value true)
short_circuit false right false = Ok (bool_value false)
short_circuit _ right _ = and_then right (λ v. and_then (as_condition v) (λ c. Ok (bool_value c)))

abbrev pub apply_operator : BinOp → Value → Value → Result Value TrapKind
apply_operator operator.Or v w = Err trap.Kind
apply_operator operator.And v w = Err trap.Kind
apply_operator operator.Eq v w = Ok (bool_value (same_value v w))
apply_operator operator.Ne v w = Ok (bool_value (not (same_value v w)))
apply_operator operator.Lt v w = compare_values int_lt before v w
apply_operator operator.Le v w = compare_values int_le (λ s t. not (before t s)) v w
apply_operator operator.Gt v w = compare_values (λ m n. int_lt n m) (λ s t. before t s) v w
apply_operator operator.Ge v w = compare_values (λ m n. int_le n m) (λ s t. not (before s t)) v w
apply_operator operator.Add v w = on_integers (λ m n. checked_int (m +ℤ n)) v w
apply_operator operator.Sub v w = on_integers (λ m n. checked_int (m -ℤ n)) v w
apply_operator operator.Glue v w = concat_texts v w
apply_operator operator.Mul v w = on_integers (λ m n. checked_int (m *ℤ n)) v w
apply_operator operator.Div v w = on_integers (checked_divide int_div) v w
apply_operator operator.Rem v w = on_integers (checked_divide int_rem) v w

abbrev pub eval_binary : BinOp → Result Value TrapKind → Result Value TrapKind → Result Value TrapKind
eval_binary operator.Or left right = and_then left (λ v. and_then (as_condition v) (short_circuit true right))
eval_binary operator.And left right = and_then left (λ v. and_then (as_condition v) (short_circuit false right))
eval_binary o left right = and_then left (λ v. and_then right (apply_operator o v))

abbrev pub negate_condition : Value → Result Value TrapKind
negate_condition v = and_then (as_condition v) (λ c. Ok (bool_value (not c)))

-- an integer's decimal text, or the text itself
abbrev pub to_text : Value → Result Value TrapKind
to_text (Int n) = Ok (Text (signed_decimal n))
to_text (Text t) = Ok (Text t)
to_text Nothing = Err trap.Kind

abbrev pub to_length : Value → Result Value TrapKind
to_length (Text t) = Ok (Int (pos (length t)))
to_length _ = Err trap.Kind

-- a variable starts as none
abbrev pub variable_value : List ℕ → List (List ℕ × Value) → Value
variable_value x variables = unwrap_or (get x variables) Nothing

abbrev pub eval : Expr → List (List ℕ × Value) → Result Value TrapKind
eval (expr.Int n) vs = Ok (Int n)
eval (expr.Text t) vs = Ok (Text t)
eval expr.Nothing vs = Ok Nothing
eval (expr.Var x) vs = Ok (variable_value x vs)
eval (expr.Not' p' (more_of-Expr a end_of-Expr)) vs = and_then (eval a vs) negate_condition
eval (expr.Two' o p' (more_of-Expr a end_of-Expr) q' (more_of-Expr b end_of-Expr)) vs = eval_binary o (eval a vs) (eval b vs)
eval (expr.TextOf' p' (more_of-Expr a end_of-Expr)) vs = and_then (eval a vs) to_text
eval (expr.Len' p' (more_of-Expr a end_of-Expr)) vs = and_then (eval a vs) to_length

-- expressions from left to right
abbrev pub eval_all : List Expr → List (List ℕ × Value) → Result (List Value) TrapKind
eval_all [] vs = Ok []
eval_all (x ∷ xs) vs = and_then (eval x vs) (λ v. and_then (eval_all xs vs) (λ ws. Ok (v ∷ ws)))

-- a name is a text of 1 to 64 bytes
abbrev pub to_name : Value → Result (List ℕ) TrapKind
to_name (Text t) = if nat_le 1 (length t) && nat_le (length t) MAX_NAME_BYTES then Ok t else Err trap.Key
to_name _ = Err trap.Key

abbrev pub to_names : List Value → Result (List (List ℕ)) TrapKind
to_names [] = Ok []
to_names (v ∷ vs) = and_then (to_name v) (λ n. and_then (to_names vs) (λ ns. Ok (n ∷ ns)))
