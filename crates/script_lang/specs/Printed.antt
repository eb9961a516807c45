-- The canonical text of functions: one space between words and on both sides of an operator, `, ` after a comma, two spaces for
-- each block that is open, and parentheses exactly where the tree needs them.
use Rattle.std.specs.Prelude.{ℕ, zero, suc, ◌+◌, ◌-◌, Bool, true, false, nat_lt, List, [], ◌∷◌, ◌++◌, codes}
use Rattle.std.specs.Fmt.{signed_decimal}
use Rattle.lb_base.specs.Quoted.{quoted}
use Rattle.boki_types.specs.declared.expr.BinOp.{BinOp}
use Rattle.boki_types.specs.declared.expr.BinOp.TheVariants as o
use Rattle.boki_types.specs.declared.expr.Expr.{Expr, more_of-Expr, end_of-Expr}
use Rattle.boki_types.specs.declared.expr.Expr.TheVariants as e
use Rattle.boki_types.specs.declared.program.Function.{Function}
use Rattle.boki_types.specs.declared.program.Stmt.{Stmt}
use Rattle.boki_types.specs.declared.program.Stmt.TheVariants as s
use Rattle.script_lang.specs.Expressions.{precedence, left_precedence}

-- one text behind another
infixr 30 ◌&◌
abbrev pub ◌&◌ : List ℕ → List ℕ → List ℕ
a & b = a ++ b

abbrev pub op_text : BinOp → List ℕ
op_text o.Or = codes "or"
op_text o.And = codes "and"
op_text o.Eq = codes "=="
op_text o.Ne = codes "!="
op_text o.Lt = codes "<"
op_text o.Le = codes "<="
op_text o.Gt = codes ">"
op_text o.Ge = codes ">="
op_text o.Add = codes "+"
op_text o.Sub = codes "-"
op_text o.Glue = codes "++"
op_text o.Mul = codes "*"
op_text o.Div = codes "/"
op_text o.Rem = codes "%"

abbrev pub paren_text : Bool → List ℕ → List ℕ
paren_text false text = text
paren_text true text = codes "(" & text & codes ")"

-- an expression as the operand of what binds as p: in parentheses where it binds less tightly
abbrev pub expr_text : ℕ → Expr → List ℕ
expr_text p (e.Int n) = signed_decimal n
expr_text p (e.Text x) = quoted x
expr_text p e.Nothing = codes "none"
expr_text p (e.Var x) = x
expr_text p (e.Not' p' (more_of-Expr a end_of-Expr)) = paren_text (nat_lt 3 p) (codes "not " & expr_text 3 a)
expr_text p (e.Two' o p' (more_of-Expr a end_of-Expr) q' (more_of-Expr b end_of-Expr)) =
    paren_text (nat_lt (precedence o) p) (expr_text (left_precedence (precedence o)) a & codes " " & op_text o & codes " " & expr_text (precedence o + 1) b)
expr_text p (e.TextOf' p' (more_of-Expr a end_of-Expr)) = codes "text(" & expr_text 0 a & codes ")"
expr_text p (e.Len' p' (more_of-Expr a end_of-Expr)) = codes "len(" & expr_text 0 a & codes ")"

abbrev pub top_expr_text : Expr → List ℕ
top_expr_text x = expr_text 0 x

-- texts with `, ` between them
abbrev pub each_behind_comma : {A : Type 0} → (A → List ℕ) → List A → List ℕ
each_behind_comma print [] = []
each_behind_comma print (x ∷ xs) = codes ", " & print x & each_behind_comma print xs

abbrev pub comma_joined : {A : Type 0} → (A → List ℕ) → List A → List ℕ
comma_joined print [] = []
comma_joined print (x ∷ xs) = print x & each_behind_comma print xs

-- a text, with a comma before it where it isn't the first
abbrev pub comma_before : Bool → List ℕ → List ℕ
comma_before true text = text
comma_before false text = codes ", " & text

-- a name or an expression, `=`, and an expression
abbrev pub assignment_text : List ℕ × Expr → List ℕ
assignment_text p = p.0 & codes " = " & top_expr_text p.1

abbrev pub write_pair_text : Expr × Expr → List ℕ
write_pair_text p = top_expr_text p.0 & codes " = " & top_expr_text p.1

abbrev pub name_text : List ℕ → List ℕ
name_text x = x

-- `let V = commit`, and what it writes
abbrev pub commit_text : List ℕ → List (Expr × Expr) → List ℕ
commit_text x [] = codes "let " & x & codes " = commit"
commit_text x (p ∷ ps) = codes "let " & x & codes " = commit " & comma_joined write_pair_text (p ∷ ps)

abbrev pub stmt_text : Stmt → List ℕ
stmt_text (s.Let x a) = codes "let " & x & codes " = " & codes "" & top_expr_text a
stmt_text (s.Read x a) = codes "let " & x & codes " = " & codes "read " & top_expr_text a
stmt_text (s.Write a b) = codes "write " & top_expr_text a & codes ", " & top_expr_text b
stmt_text (s.Spawn x f es) = codes "let " & x & codes " = spawn " & f & codes "(" & comma_joined top_expr_text es & codes ")"
stmt_text (s.Join x a) = codes "let " & x & codes " = " & codes "join " & top_expr_text a
stmt_text (s.Push a b) = codes "push " & top_expr_text a & codes ", " & top_expr_text b
stmt_text (s.Pop x a) = codes "let " & x & codes " = " & codes "pop " & top_expr_text a
stmt_text (s.Begin pairs) = codes "begin " & comma_joined assignment_text pairs
stmt_text (s.Commit x pairs) = commit_text x pairs
stmt_text (s.If a) = codes "if " & top_expr_text a
stmt_text s.Else = codes "else"
stmt_text (s.While a) = codes "while " & top_expr_text a
stmt_text s.End = codes "end"
stmt_text (s.Return a) = codes "return " & top_expr_text a
stmt_text (s.ReadAll pairs) = codes "read all " & comma_joined assignment_text pairs

-- how far in a line stands where so many blocks are open before it, and how many are behind it
abbrev pub line_depth : ℕ → Stmt → ℕ
line_depth n s.Else = n - 1
line_depth n s.End = n - 1
line_depth n _ = n

abbrev pub next_depth : ℕ → Stmt → ℕ
next_depth n (s.If a) = n + 1
next_depth n (s.While a) = n + 1
next_depth n s.End = n - 1
next_depth n _ = n

abbrev pub indent : ℕ → List ℕ
indent zero = []
indent (suc n) = codes "  " & indent n

abbrev pub stmt_line_text : ℕ → Stmt → List ℕ
stmt_line_text n l = indent (line_depth n l) & stmt_text l & codes "\n"

abbrev pub stmt_lines_text : ℕ → List Stmt → List ℕ
stmt_lines_text n [] = []
stmt_lines_text n (l ∷ ls) = stmt_line_text n l & stmt_lines_text (next_depth n l) ls

abbrev pub function_text : Function → List ℕ
function_text f = codes "function " & f.name & codes "(" & comma_joined name_text f.params & codes ")\n" & stmt_lines_text 1 f.lines & codes "end\n"
