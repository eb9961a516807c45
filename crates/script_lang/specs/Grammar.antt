-- The grammar of expressions, rule by rule, with what each spelling stands for. It says nothing of how tokens are read.
use Rattle.std.specs.Prelude.{◌≡◌, ℕ, ◌+◌, ◌≤◌, Bool, true, false, List, [], ◌∷◌, ◌++◌, length, Option, Some, None, nat_le}
use Rattle.boki_types.specs.declared.expr.BinOp.{BinOp}
use Rattle.boki_types.specs.declared.expr.BinOp.TheVariants as o
use Rattle.boki_types.specs.declared.expr.Expr.{Expr}
use Rattle.boki_types.specs.declared.expr.Expr.TheVariants as e
use Rattle.line_text.specs.declared.token.Keyword.TheVariants as k
use Rattle.line_text.specs.declared.token.Punctuation.TheVariants as m
use Rattle.line_text.specs.declared.token.Token.{Token}
use Rattle.line_text.specs.declared.token.Token.TheVariants as t
use Rattle.line_text.specs.declared.checked.Checked.{Checked}
use Rattle.script_lang.specs.declared.parts.Part.{Part}
use Rattle.script_lang.specs.declared.parts.Wrapper.TheVariants as w
use Rattle.script_lang.specs.Expressions.{leaf, binary_part, nested_part, wrap, not_expr, positive, negative, precedence, left_precedence, checked_expr}
use Rattle.line_text.specs.Readers.{is_zero}

-- the operator that a token is
abbrev pub operator_of : Token → Option BinOp
operator_of (t.Op op) = Some op
operator_of (t.Minus sign) = Some o.Sub
operator_of _ = None

-- Tokens spell a part in which no operator stands outside of parentheses that binds less tightly than p: 1 is `or`, 2 `and`,
-- 3 `not`, 4 a comparison, 5 a sum, 6 a product, and from 7 on an atom. Operators group to the left; a comparison has sums on
-- both sides.
pub data Spells : ℕ → List Token → Part → Type 0 where
  number : {p : ℕ} (n : Option ℕ) → Spells p (t.Numeral n ∷ []) (positive n)
  signed : {p : ℕ} (n : Option ℕ) → is_zero n ≡ false → Spells p (t.Minus true ∷ t.Numeral n ∷ []) (negative n)
  text : {p : ℕ} (x : List ℕ) → Spells p (t.Text x ∷ []) (leaf (nat_le (length x) 256) (e.Text x))
  variable : {p : ℕ} (x : List ℕ) → Spells p (t.Name x ∷ []) (leaf (nat_le (length x) 32) (e.Var x))
  nothing : {p : ℕ} → Spells p (t.Keyword k.Nothing ∷ []) (leaf true e.Nothing)
  parens : {p : ℕ} {ts : List Token} {a : Part} → Spells 0 ts a → Spells p (t.Punctuation m.Open ∷ (ts ++ t.Punctuation m.Close ∷ [])) (nested_part (wrap w.Paren) a)
  text_of : {p : ℕ} {ts : List Token} {a : Part} → Spells 0 ts a → Spells p (t.Keyword k.TextOf ∷ t.Punctuation m.Open ∷ (ts ++ t.Punctuation m.Close ∷ [])) (nested_part (wrap w.TextOf) a)
  len_of : {p : ℕ} {ts : List Token} {a : Part} → Spells 0 ts a → Spells p (t.Keyword k.Len ∷ t.Punctuation m.Open ∷ (ts ++ t.Punctuation m.Close ∷ [])) (nested_part (wrap w.Len) a)
  negation : {p : ℕ} {ts : List Token} {a : Part} → p ≤ 3 → Spells 3 ts a → Spells p (t.Keyword k.Not ∷ ts) (nested_part not_expr a)
  binary : {p : ℕ} {ts us : List Token} {a b : Part} (op : BinOp) (sign : Token) → operator_of sign ≡ Some op → p ≤ precedence op → Spells (left_precedence (precedence op)) ts a → Spells (precedence op + 1) us b → Spells p (ts ++ sign ∷ us) (binary_part op a b)

-- where an expression may end: at a comma, `=` or a closing parenthesis, or at the end of the line
abbrev pub ends_at : List Token → Bool
ends_at [] = true
ends_at (t.Punctuation m.Close ∷ ts) = true
ends_at (t.Punctuation m.Comma ∷ ts) = true
ends_at (t.Punctuation m.Assign ∷ ts) = true
ends_at _ = false

-- What was read from tokens is spelled by a front of them, up to where the expression ends.
pub record IsSpelledExpr (whole : List Token) (found : Checked Expr × List Token) : Type 0 where
  pub front : List Token
  pub part : Part
  pub spelled : Spells 0 front part
  pub value : found.0 ≡ checked_expr part
  pub same : front ++ found.1 ≡ whole
  pub ends : ends_at found.1 ≡ true
