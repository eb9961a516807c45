-- The tokens of an expression's canonical text, and how deep they nest.
use Rattle.std.specs.Prelude.{ℕ, suc, ◌+◌, ℤ, pos, negsuc, max, Bool, true, false, nat_lt, List, [], ◌∷◌, ◌++◌, Some}
use Rattle.boki_types.specs.declared.expr.BinOp.{BinOp}
use Rattle.boki_types.specs.declared.expr.BinOp.TheVariants as o
use Rattle.boki_types.specs.declared.expr.Expr.{Expr, more_of-Expr, end_of-Expr}
use Rattle.boki_types.specs.declared.expr.Expr.TheVariants as e
use Rattle.line_text.specs.declared.token.Keyword.TheVariants as k
use Rattle.line_text.specs.declared.token.Punctuation.TheVariants as m
use Rattle.line_text.specs.declared.token.Token.{Token}
use Rattle.line_text.specs.declared.token.Token.TheVariants as t
use Rattle.script_lang.specs.Expressions.{precedence, left_precedence}

-- a minus that a space follows is no sign
abbrev pub op_token : BinOp → Token
op_token o.Sub = t.Minus false
op_token op = t.Op op

abbrev pub int_tokens : ℤ → List Token
int_tokens (pos n) = t.Numeral (Some n) ∷ []
int_tokens (negsuc n) = t.Minus true ∷ t.Numeral (Some (suc n)) ∷ []

abbrev pub in_parens : Bool → List Token → List Token
in_parens false ts = ts
in_parens true ts = t.Punctuation m.Open ∷ (ts ++ t.Punctuation m.Close ∷ [])

-- an expression as the operand of what binds as p
abbrev pub tokens_of : ℕ → Expr → List Token
tokens_of p (e.Int n) = int_tokens n
tokens_of p (e.Text x) = t.Text x ∷ []
tokens_of p e.Nothing = t.Keyword k.Nothing ∷ []
tokens_of p (e.Var x) = t.Name x ∷ []
tokens_of p (e.Not' p' (more_of-Expr a end_of-Expr)) = in_parens (nat_lt 3 p) (t.Keyword k.Not ∷ tokens_of 3 a)
tokens_of p (e.Two' op p' (more_of-Expr a end_of-Expr) q' (more_of-Expr b end_of-Expr)) =
    in_parens (nat_lt (precedence op) p) (tokens_of (left_precedence (precedence op)) a ++ op_token op ∷ tokens_of (precedence op + 1) b)
tokens_of p (e.TextOf' p' (more_of-Expr a end_of-Expr)) = t.Keyword k.TextOf ∷ t.Punctuation m.Open ∷ (tokens_of 0 a ++ t.Punctuation m.Close ∷ [])
tokens_of p (e.Len' p' (more_of-Expr a end_of-Expr)) = t.Keyword k.Len ∷ t.Punctuation m.Open ∷ (tokens_of 0 a ++ t.Punctuation m.Close ∷ [])

abbrev pub deeper : Bool → ℕ → ℕ
deeper false d = d
deeper true d = d + 1

-- how many of parentheses, `not`, `text` and `len` stand in one another in these tokens
abbrev pub depth_of : ℕ → Expr → ℕ
depth_of p (e.Not' p' (more_of-Expr a end_of-Expr)) = deeper (nat_lt 3 p) (depth_of 3 a + 1)
depth_of p (e.Two' op p' (more_of-Expr a end_of-Expr) q' (more_of-Expr b end_of-Expr)) =
    deeper (nat_lt (precedence op) p) (max (depth_of (left_precedence (precedence op)) a) (depth_of (precedence op + 1) b))
depth_of p (e.TextOf' p' (more_of-Expr a end_of-Expr)) = depth_of 0 a + 1
depth_of p (e.Len' p' (more_of-Expr a end_of-Expr)) = depth_of 0 a + 1
depth_of p _ = 0
