-- Reading an expression from tokens, from the left: what stands before the part that is being read, the innermost first, and
-- that part. No tree is kept past the limits, and yet everything behind them is read.
use Rattle.std.specs.Prelude.{ℕ, ◌+◌, ◌^◌, ◌&&◌, pos, neg_ℤ, max, Bool, true, false, List, [], ◌∷◌, length, Option, Some, None, ◌==◌, nat_le, nat_lt, if◌then◌else◌}
use Rattle.boki_types.specs.declared.expr.BinOp.{BinOp}
use Rattle.boki_types.specs.declared.expr.BinOp.TheVariants as o
use Rattle.boki_types.specs.declared.expr.Expr.{Expr}
use Rattle.boki_types.specs.declared.expr.Expr.TheVariants as e
use Rattle.line_text.specs.declared.token.Keyword.{Keyword}
use Rattle.line_text.specs.declared.token.Keyword.TheVariants as k
use Rattle.line_text.specs.declared.token.Punctuation.TheVariants as m
use Rattle.line_text.specs.declared.token.Token.{Token}
use Rattle.line_text.specs.declared.token.Token.TheVariants as t
use Rattle.line_text.specs.declared.checked.Checked.{Checked}
use Rattle.line_text.specs.declared.checked.Checked.TheVariants as r
use Rattle.script_lang.specs.declared.parts.Part.{Part}
use Rattle.script_lang.specs.declared.parts.Part.TheVariants.{Tree, OutOfRange, TooDeep}
use Rattle.script_lang.specs.declared.parts.Wrapper.{Wrapper}
use Rattle.script_lang.specs.declared.parts.Wrapper.TheVariants as w
use Rattle.script_lang.specs.declared.stack.StackItem.{StackItem}
use Rattle.script_lang.specs.declared.stack.StackItem.TheVariants.{Open, Not, Left}
use Rattle.script_lang.specs.declared.stack.ExprState.{ExprState}
use Rattle.script_lang.specs.declared.stack.ExprState.TheVariants.{NeedsOperand, NeedsNumber, NeedsParen, HasOperand}
use Rattle.line_text.specs.Readers.{is_zero}
use Rattle.script_lang.specs.declared.first.Lookahead.{Lookahead}
use Rattle.script_lang.specs.declared.first.Lookahead.TheVariants as f
use Rattle.line_text.specs.Stream.{punctuation_at}
use Rattle.line_text.specs.declared.token.Punctuation.{Punctuation}

-- Parts: a tree with its number of operands, and how many of parentheses, `not`, `text` and `len` stand in one another in it;
-- or that something in it is out of range; or else that it is past the limits.

-- an operand that is in range, or not
abbrev pub leaf : Bool → Expr → Part
leaf true x = Tree x 1 0
leaf false x = OutOfRange

abbrev pub binary_part : BinOp → Part → Part → Part
binary_part o (Tree x n d) (Tree y m h) = if nat_le (n + m) 64 then Tree (e.Two o x y) (n + m) (max d h) else TooDeep
binary_part o (Tree x n d) OutOfRange = OutOfRange
binary_part o (Tree x n d) TooDeep = TooDeep
binary_part o OutOfRange right = OutOfRange
binary_part o TooDeep (Tree y m h) = TooDeep
binary_part o TooDeep OutOfRange = OutOfRange
binary_part o TooDeep TooDeep = TooDeep

abbrev pub nested_part : (Expr → Expr) → Part → Part
nested_part make (Tree x n d) = if nat_lt d 32 then Tree (make x) n (d + 1) else TooDeep
nested_part make OutOfRange = OutOfRange
nested_part make TooDeep = TooDeep

abbrev pub wrap : Wrapper → Expr → Expr
wrap w.Paren x = x
wrap w.TextOf x = e.TextOf x
wrap w.Len x = e.Len x

abbrev pub not_expr : Expr → Expr
not_expr x = e.Not x

-- a part as an expression
abbrev pub checked_expr : Part → Checked Expr
checked_expr (Tree x n d) = r.Valid x
checked_expr OutOfRange = r.OutOfRange
checked_expr TooDeep = r.TooDeep

-- Numbers: a numeral as an integer, and a numeral behind a minus.
abbrev pub positive : Option ℕ → Part
positive None = OutOfRange
positive (Some n) = if nat_lt n (2 ^ 63) then Tree (e.Int (pos n)) 1 0 else OutOfRange

abbrev pub negative : Option ℕ → Part
negative None = OutOfRange
negative (Some n) = if nat_le n (2 ^ 63) then Tree (e.Int (neg_ℤ (pos n))) 1 0 else OutOfRange

-- How tightly an operator binds. `not` binds as 3, between `and` and the comparisons.
abbrev pub precedence : BinOp → ℕ
precedence o.Or = 1
precedence o.And = 2
precedence o.Eq = 4
precedence o.Ne = 4
precedence o.Lt = 4
precedence o.Le = 4
precedence o.Gt = 4
precedence o.Ge = 4
precedence o.Add = 5
precedence o.Sub = 5
precedence o.Glue = 5
precedence o.Mul = 6
precedence o.Div = 6
precedence o.Rem = 6

-- the operators that bind at least so tightly take what is read as their right side
abbrev pub reduce : ℕ → List StackItem → Part → List StackItem × Part
reduce p [] x = ([], x)
reduce p (Open wrapper ∷ s) x = (Open wrapper ∷ s, x)
reduce p (Not ∷ s) x = if nat_le p 3 then reduce p s (nested_part not_expr x) else (Not ∷ s, x)
reduce p (Left a o ∷ s) x = if nat_le p (precedence o) then reduce p s (binary_part o a x) else (Left a o ∷ s, x)

-- a comparison doesn't take one that stands right before it
abbrev pub is_after_comparison : List StackItem → Bool
is_after_comparison [] = false
is_after_comparison (Open wrapper ∷ s) = false
is_after_comparison (Not ∷ s) = false
is_after_comparison (Left a o ∷ s) = precedence o == 4

-- a comparison as the right side of nothing that binds at least so tightly; other operators group to the left
abbrev pub left_precedence : ℕ → ℕ
left_precedence p = if p == 4 then 5 else p

abbrev pub push_operator : BinOp → List StackItem × Part → Option (List StackItem × ExprState)
push_operator o p = if (precedence o == 4) && is_after_comparison p.0 then None else Some (Left p.1 o ∷ p.0, NeedsOperand)

abbrev pub shift_operator : BinOp → List StackItem → ExprState → Option (List StackItem × ExprState)
shift_operator o s NeedsOperand = None
shift_operator o s NeedsNumber = None
shift_operator o s (NeedsParen wrapper) = None
shift_operator o s (HasOperand x) = push_operator o (reduce (left_precedence (precedence o)) s x)

abbrev pub shift_operand : List StackItem → ExprState → Part → Option (List StackItem × ExprState)
shift_operand s NeedsOperand x = Some (s, HasOperand x)
shift_operand s NeedsNumber x = None
shift_operand s (NeedsParen wrapper) x = None
shift_operand s (HasOperand y) x = None

abbrev pub shift_number : Option ℕ → List StackItem → ExprState → Option (List StackItem × ExprState)
shift_number n s NeedsOperand = Some (s, HasOperand (positive n))
shift_number n s NeedsNumber = if is_zero n then None else Some (s, HasOperand (negative n))
shift_number n s (NeedsParen wrapper) = None
shift_number n s (HasOperand y) = None

-- `not` may not stand behind a comparison or an operator of numbers and texts
abbrev pub may_be_negated : List StackItem → Bool
may_be_negated [] = true
may_be_negated (Open wrapper ∷ s) = true
may_be_negated (Not ∷ s) = true
may_be_negated (Left a o ∷ s) = nat_lt (precedence o) 4

abbrev pub shift_not : List StackItem → ExprState → Option (List StackItem × ExprState)
shift_not s NeedsOperand = if may_be_negated s then Some (Not ∷ s, NeedsOperand) else None
shift_not s NeedsNumber = None
shift_not s (NeedsParen wrapper) = None
shift_not s (HasOperand y) = None

abbrev pub shift_wrapper : Wrapper → List StackItem → ExprState → Option (List StackItem × ExprState)
shift_wrapper wrapper s NeedsOperand = Some (s, NeedsParen wrapper)
shift_wrapper wrapper s NeedsNumber = None
shift_wrapper wrapper s (NeedsParen other) = None
shift_wrapper wrapper s (HasOperand y) = None

abbrev pub shift_open : List StackItem → ExprState → Option (List StackItem × ExprState)
shift_open s NeedsOperand = Some (Open w.Paren ∷ s, NeedsOperand)
shift_open s NeedsNumber = None
shift_open s (NeedsParen wrapper) = Some (Open wrapper ∷ s, NeedsOperand)
shift_open s (HasOperand y) = None

abbrev pub shift_keyword : Keyword → List StackItem → ExprState → Option (List StackItem × ExprState)
shift_keyword k.Nothing s p = shift_operand s p (leaf true e.Nothing)
shift_keyword k.Not s p = shift_not s p
shift_keyword k.TextOf s p = shift_wrapper w.TextOf s p
shift_keyword k.Len s p = shift_wrapper w.Len s p
shift_keyword _ s p = None

-- a minus is an operator behind an operand, and else the sign of the number that follows it at once
abbrev pub shift_minus : Bool → List StackItem → ExprState → Option (List StackItem × ExprState)
shift_minus sign s NeedsOperand = if sign then Some (s, NeedsNumber) else None
shift_minus sign s NeedsNumber = None
shift_minus sign s (NeedsParen wrapper) = None
shift_minus sign s (HasOperand x) = push_operator o.Sub (reduce 5 s x)

-- what a token makes of what is read; None where it doesn't fit
abbrev pub shift_token : Token → List StackItem → ExprState → Option (List StackItem × ExprState)
shift_token (t.Numeral n) s p = shift_number n s p
shift_token (t.Dotted x) s p = None
shift_token (t.Text x) s p = shift_operand s p (leaf (nat_le (length x) 256) (e.Text x))
shift_token (t.Name x) s p = shift_operand s p (leaf (nat_le (length x) 32) (e.Var x))
shift_token (t.Keyword key) s p = shift_keyword key s p
shift_token (t.Op o) s p = shift_operator o s p
shift_token (t.Minus sign) s p = shift_minus sign s p
shift_token (t.Punctuation m.Open) s p = shift_open s p
shift_token (t.Punctuation m.Close) s p = None
shift_token (t.Punctuation m.Comma) s p = None
shift_token (t.Punctuation m.Assign) s p = None

-- A closing parenthesis closes the innermost one that is open. Where none is, the expression ends before it.
abbrev pub if_stack_empty : List StackItem × Part → Option Part
if_stack_empty ([], x) = Some x
if_stack_empty (i ∷ is, x) = None

abbrev pub end_of_expr : List StackItem → ExprState → Option Part
end_of_expr s NeedsOperand = None
end_of_expr s NeedsNumber = None
end_of_expr s (NeedsParen wrapper) = None
end_of_expr s (HasOperand x) = if_stack_empty (reduce 0 s x)

-- the expression and the tokens behind it
abbrev pub expr_before : List Token → Option Part → Option (Checked Expr × List Token)
expr_before ts None = None
expr_before ts (Some x) = Some (checked_expr x, ts)

-- what a closing parenthesis gives: the part in the innermost parentheses, with what stands before them
abbrev pub close_reduced : List StackItem × Part → Option (List StackItem × Part)
close_reduced ([], x) = None
close_reduced (Open wrapper ∷ s, x) = Some (s, nested_part (wrap wrapper) x)
close_reduced (Not ∷ s, x) = None
close_reduced (Left a o ∷ s, x) = None

abbrev pub close_paren : List StackItem → ExprState → Option (List StackItem × Part)
close_paren s NeedsOperand = None
close_paren s NeedsNumber = None
close_paren s (NeedsParen wrapper) = None
close_paren s (HasOperand x) = close_reduced (reduce 0 s x)

abbrev pub read_on : (List StackItem → ExprState → Option (Checked Expr × List Token)) → Option (List StackItem × ExprState) → Option (Checked Expr × List Token)
read_on others None = None
read_on others (Some q) = others q.0 q.1

abbrev pub close_or_end : (List StackItem → ExprState → Option (Checked Expr × List Token)) → Option (Checked Expr × List Token) → Option (List StackItem × Part) → Option (Checked Expr × List Token)
close_or_end others ending None = ending
close_or_end others ending (Some q) = others q.0 (HasOperand q.1)

-- whether an expression goes on at the first token
abbrev pub lookahead_by : Option Punctuation → Lookahead → Lookahead
lookahead_by None none = none
lookahead_by (Some m.Open) none = f.Other
lookahead_by (Some m.Close) none = f.Close
lookahead_by (Some m.Comma) none = f.Stop
lookahead_by (Some m.Assign) none = f.Stop

abbrev pub lookahead_of : List Token → Lookahead
lookahead_of [] = f.Stop
lookahead_of (token ∷ ts) = lookahead_by (punctuation_at (token ∷ ts)) f.Other

abbrev pub read_from : List Token → List StackItem → ExprState → Option (Checked Expr × List Token)
read_from [] s p = expr_before [] (end_of_expr s p)
read_from (t.Punctuation m.Close ∷ ts) s p = close_or_end (read_from ts) (expr_before (t.Punctuation m.Close ∷ ts) (end_of_expr s p)) (close_paren s p)
read_from (t.Punctuation m.Comma ∷ ts) s p = expr_before (t.Punctuation m.Comma ∷ ts) (end_of_expr s p)
read_from (t.Punctuation m.Assign ∷ ts) s p = expr_before (t.Punctuation m.Assign ∷ ts) (end_of_expr s p)
read_from (token ∷ ts) s p = read_on (read_from ts) (shift_token token s p)

-- the longest expression that begins tokens, and the tokens behind it; None where a token doesn't fit before it ends
abbrev pub expr_at : List Token → Option (Checked Expr × List Token)
expr_at ts = read_from ts [] NeedsOperand
