-- The statements of each form.
use Rattle.std.specs.Prelude.{ℕ, List}
use Rattle.boki_types.specs.declared.expr.Expr.{Expr}
use Rattle.boki_types.specs.declared.program.Stmt.{Stmt}
use Rattle.boki_types.specs.declared.program.Stmt.TheVariants as s
use Rattle.script_lang.specs.declared.statements.ValueForm.{ValueForm}
use Rattle.script_lang.specs.declared.statements.ValueForm.TheVariants as v
use Rattle.script_lang.specs.declared.statements.PairForm.{PairForm}
use Rattle.script_lang.specs.declared.statements.PairForm.TheVariants as p
use Rattle.script_lang.specs.declared.statements.ExprForm.{ExprForm}
use Rattle.script_lang.specs.declared.statements.ExprForm.TheVariants as o
use Rattle.script_lang.specs.declared.statements.GroupForm.{GroupForm}
use Rattle.script_lang.specs.declared.statements.GroupForm.TheVariants as g

abbrev pub make_value_stmt : ValueForm → List ℕ → Expr → Stmt
make_value_stmt v.Let name x = s.Let name x
make_value_stmt v.Read name x = s.Read name x
make_value_stmt v.Join name x = s.Join name x
make_value_stmt v.Pop name x = s.Pop name x

abbrev pub make_pair_stmt : PairForm → Expr → Expr → Stmt
make_pair_stmt p.Write x y = s.Write x y
make_pair_stmt p.Push x y = s.Push x y

abbrev pub make_expr_stmt : ExprForm → Expr → Stmt
make_expr_stmt o.If x = s.If x
make_expr_stmt o.While x = s.While x
make_expr_stmt o.Return x = s.Return x

abbrev pub make_group_stmt : GroupForm → List (List ℕ × Expr) → Stmt
make_group_stmt g.Begin pairs = s.Begin pairs
make_group_stmt g.ReadAll pairs = s.ReadAll pairs
