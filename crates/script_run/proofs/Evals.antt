-- What an expression gives, by its parts, and how a part that fails ends the whole.
use Rattle.std.proofs.Common.{◌≡◌, ◌∙◌, ap, sym, subst, refl, Bool, true, false, List, ℕ, Result, Ok, Err, Option, Some, None, cond}
use denote.Hole.Carrier.{hidden}
use Rattle.boki_types.specs.declared.expr.Expr.TheBlock.{hidden-the_row-Expr-0}
use Rattle.lb_base.specs.declared.value.Value.{Value}
use Rattle.lb_base.specs.declared.value.TrapKind.{TrapKind}
use Rattle.boki_types.specs.declared.expr.BinOp.{BinOp}
use Rattle.boki_types.specs.declared.expr.BinOp.TheVariants as op
use Rattle.boki_types.specs.declared.expr.Expr as expr
use Rattle.boki_types.specs.declared.expr.Expr.{Expr}
use Rattle.boki_model.specs.Values.{and_then, bool_value, as_condition, short_circuit, eval_binary, negate_condition, to_text, to_length, eval}
use Rattle.script_run.specs.declared.fault.EvalFault.{EvalFault}
use Rattle.script_run.specs.declared.fault.EvalFault.TheVariants as halt
use Rattle.script_run.specs.Computes.{Computes}
use Rattle.script_run.specs.Operators.{short_circuit_of, applied_of, unless}

abbrev pub Variables : Type 0
Variables = List (List ℕ × Value)

pub eval-not : (a : Expr) (vs : Variables) → eval (expr.Not a) vs ≡ and_then (eval a vs) negate_condition
unfolding hidden-the_row-Expr-0 hidden
eval-not a vs = refl

pub eval-two : (o : BinOp) (a b : Expr) (vs : Variables) → eval (expr.Two o a b) vs ≡ eval_binary o (eval a vs) (eval b vs)
unfolding hidden-the_row-Expr-0 hidden
eval-two o a b vs = refl

pub eval-text_of : (a : Expr) (vs : Variables) → eval (expr.TextOf a) vs ≡ and_then (eval a vs) to_text
unfolding hidden-the_row-Expr-0 hidden
eval-text_of a vs = refl

pub eval-len : (a : Expr) (vs : Variables) → eval (expr.Len a) vs ≡ and_then (eval a vs) to_length
unfolding hidden-the_row-Expr-0 hidden
eval-len a vs = refl

or_true : (right : Result Value TrapKind) (v : Value) (r : Result Bool TrapKind) → and_then r (short_circuit true right) ≡ and_then (and_then r (λ c. Ok (cond c (Some (bool_value true)) None))) (λ d. unless d (and_then right (applied_of op.Or v)))
or_true right v (Ok true) = refl
or_true right v (Ok false) = refl
or_true right v (Err why) = refl

and_false : (right : Result Value TrapKind) (v : Value) (r : Result Bool TrapKind) → and_then r (short_circuit false right) ≡ and_then (and_then r (λ c. Ok (cond c None (Some (bool_value false))))) (λ d. unless d (and_then right (applied_of op.And v)))
and_false right v (Ok true) = refl
and_false right v (Ok false) = refl
and_false right v (Err why) = refl

-- the left operand is worked out, and may decide; then the right one is, and both are judged
pub two_is : (o : BinOp) (left right : Result Value TrapKind) → eval_binary o left right ≡ and_then left (λ v. and_then (short_circuit_of o v) (λ d. unless d (and_then right (applied_of o v))))
two_is op.Or (Ok v) right = or_true right v (as_condition v)
two_is op.Or (Err why) right = refl
two_is op.And (Ok v) right = and_false right v (as_condition v)
two_is op.And (Err why) right = refl
two_is op.Eq left right = refl
two_is op.Ne left right = refl
two_is op.Lt left right = refl
two_is op.Le left right = refl
two_is op.Gt left right = refl
two_is op.Ge left right = refl
two_is op.Add left right = refl
two_is op.Sub left right = refl
two_is op.Glue left right = refl
two_is op.Mul left right = refl
two_is op.Div left right = refl
two_is op.Rem left right = refl

pub eval-both : (o : BinOp) (a b : Expr) (vs : Variables) → eval (expr.Two o a b) vs ≡ and_then (eval a vs) (λ v. and_then (short_circuit_of o v) (λ d. unless d (and_then (eval b vs) (applied_of o v))))
eval-both o a b vs = eval-two o a b vs ∙ two_is o (eval a vs) (eval b vs)

-- an expression of two operands, by what its two parts give
pub is_two : (o : BinOp) (e a b a' b' : Expr) (vs : Variables) → e ≡ expr.Two o a b → a' ≡ a → b' ≡ b → eval e vs ≡ and_then (eval a' vs) (λ v. and_then (short_circuit_of o v) (λ d. unless d (and_then (eval b' vs) (applied_of o v))))
is_two o e a b a' b' vs is left right =
    ap (λ (z : Expr). eval z vs) (is ∙ ap (λ (z : Expr). expr.Two o z b) (sym left) ∙ ap (λ (z : Expr). expr.Two o a' z) (sym right)) ∙ eval-both o a' b' vs

-- the whole of two operands, where each part ends or goes on
module _ (o : BinOp) (left right whole : Result Value TrapKind) (is : whole ≡ and_then left (λ v. and_then (short_circuit_of o v) (λ d. unless d (and_then right (applied_of o v))))) where
  pub left_ends : (h : EvalFault) → Computes left (Err h) → Computes whole (Err h)
  left_ends (halt.Trap why) g = is ∙ ap (λ l. and_then l (λ v. and_then (short_circuit_of o v) (λ d. unless d (and_then right (applied_of o v))))) g
  left_ends halt.Memory g = tt

  on_left : (v : Value) → left ≡ Ok v → whole ≡ and_then (short_circuit_of o v) (λ d. unless d (and_then right (applied_of o v)))
  on_left v g = is ∙ ap (λ l. and_then l (λ v. and_then (short_circuit_of o v) (λ d. unless d (and_then right (applied_of o v))))) g

  pub deciding_ends : (v : Value) (h : EvalFault) → left ≡ Ok v → Computes (short_circuit_of o v) (Err h) → Computes whole (Err h)
  deciding_ends v (halt.Trap why) l g = on_left v l ∙ ap (λ r. and_then r (λ d. unless d (and_then right (applied_of o v)))) g
  deciding_ends v halt.Memory l g = tt

  on_decided : (v : Value) (d : Option Value) → left ≡ Ok v → short_circuit_of o v ≡ Ok d → whole ≡ unless d (and_then right (applied_of o v))
  on_decided v d l g = on_left v l ∙ ap (λ r. and_then r (λ d. unless d (and_then right (applied_of o v)))) g

  pub decides : (v u : Value) → left ≡ Ok v → short_circuit_of o v ≡ Ok (Some u) → whole ≡ Ok u
  decides v u l g = on_decided v (Some u) l g

  pub right_ends : (v : Value) (h : EvalFault) → left ≡ Ok v → short_circuit_of o v ≡ Ok None → Computes right (Err h) → Computes whole (Err h)
  right_ends v (halt.Trap why) l d g = on_decided v None l d ∙ ap (λ r. and_then r (applied_of o v)) g
  right_ends v halt.Memory l d g = tt

  pub judges : (v w : Value) (r : Result Value EvalFault) → left ≡ Ok v → short_circuit_of o v ≡ Ok None → right ≡ Ok w → Computes (applied_of o v w) r → Computes whole r
  judges v w r l d g j = subst (λ e. Computes e r) (sym (on_decided v None l d ∙ ap (λ r. and_then r (applied_of o v)) g)) j

pub ruleset evals = (eval-not, eval-both, eval-text_of, eval-len)
