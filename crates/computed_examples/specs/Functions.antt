-- The functions that the examples share; tools/rows.py makes this file.
use Rattle.std.specs.Prelude.{pos, List, [], ◌∷◌, codes}
use Rattle.boki_types.specs.declared.program.Function.{Function}
use Rattle.boki_types.specs.declared.program.Stmt.{Stmt}
use Rattle.boki_types.specs.declared.program.Stmt.TheVariants as stmt
use Rattle.boki_types.specs.declared.expr.Expr.TheVariants as expr
use Rattle.boki_types.specs.declared.expr.BinOp.TheVariants as op

abbrev pub set_lines : List Stmt
set_lines =
    stmt.Write (expr.Var (codes "k")) (expr.Var (codes "v")) ∷
    stmt.Return (expr.Var (codes "v")) ∷
    []

abbrev pub set_function : Function
set_function = record { name = codes "set"; params = codes "k" ∷ codes "v" ∷ []; lines = set_lines }

abbrev pub get_lines : List Stmt
get_lines =
    stmt.Read (codes "v") (expr.Var (codes "k")) ∷
    stmt.Return (expr.Var (codes "v")) ∷
    []

abbrev pub get_function : Function
get_function = record { name = codes "get"; params = codes "k" ∷ []; lines = get_lines }

abbrev pub move_lines : List Stmt
move_lines =
    stmt.Read (codes "x") (expr.Var (codes "a")) ∷
    stmt.Read (codes "y") (expr.Var (codes "b")) ∷
    stmt.Write (expr.Var (codes "a")) (expr.Two op.Sub (expr.Var (codes "x")) (expr.Var (codes "n"))) ∷
    stmt.Write (expr.Var (codes "b")) (expr.Two op.Add (expr.Var (codes "y")) (expr.Var (codes "n"))) ∷
    stmt.Return (expr.Two op.Sub (expr.Var (codes "x")) (expr.Var (codes "n"))) ∷
    []

abbrev pub move_function : Function
move_function = record { name = codes "move"; params = codes "a" ∷ codes "b" ∷ codes "n" ∷ []; lines = move_lines }

abbrev pub two_lines : List Stmt
two_lines =
    stmt.Write (expr.Var (codes "k")) (expr.Int (pos 1)) ∷
    stmt.Write (expr.Var (codes "k")) (expr.Int (pos 2)) ∷
    stmt.Return (expr.Int (pos 0)) ∷
    []

abbrev pub two_function : Function
two_function = record { name = codes "two"; params = codes "k" ∷ []; lines = two_lines }

abbrev pub parent_lines : List Stmt
parent_lines =
    stmt.Spawn (codes "c") (codes "set") (expr.Text (codes "x") ∷ expr.Int (pos 5) ∷ []) ∷
    stmt.Join (codes "r") (expr.Var (codes "c")) ∷
    stmt.Join (codes "s") (expr.Var (codes "c")) ∷
    stmt.Return (expr.Two op.Add (expr.Var (codes "r")) (expr.Var (codes "s"))) ∷
    []

abbrev pub parent_function : Function
parent_function = record { name = codes "parent"; params = []; lines = parent_lines }

abbrev pub put_lines : List Stmt
put_lines =
    stmt.Push (expr.Var (codes "q")) (expr.Var (codes "v")) ∷
    stmt.Return (expr.Var (codes "v")) ∷
    []

abbrev pub put_function : Function
put_function = record { name = codes "put"; params = codes "q" ∷ codes "v" ∷ []; lines = put_lines }

abbrev pub take_lines : List Stmt
take_lines =
    stmt.Pop (codes "v") (expr.Var (codes "q")) ∷
    stmt.Return (expr.Var (codes "v")) ∷
    []

abbrev pub take_function : Function
take_function = record { name = codes "take"; params = codes "q" ∷ []; lines = take_lines }

abbrev pub bump_lines : List Stmt
bump_lines =
    stmt.Begin ((codes "v", expr.Var (codes "n")) ∷ []) ∷
    stmt.If (expr.Two op.Eq (expr.Var (codes "v")) expr.Nothing) ∷
    stmt.Let (codes "v") (expr.Int (pos 0)) ∷
    stmt.End ∷
    stmt.Commit (codes "ok") ((expr.Var (codes "n"), expr.Two op.Add (expr.Var (codes "v")) (expr.Int (pos 1))) ∷ []) ∷
    stmt.Return (expr.Var (codes "ok")) ∷
    []

abbrev pub bump_function : Function
bump_function = record { name = codes "bump"; params = codes "n" ∷ []; lines = bump_lines }

abbrev pub add_lines : List Stmt
add_lines =
    stmt.Return (expr.Two op.Add (expr.Var (codes "n")) (expr.Int (pos 1))) ∷
    []

abbrev pub add_function : Function
add_function = record { name = codes "add"; params = codes "n" ∷ []; lines = add_lines }

abbrev pub spin_lines : List Stmt
spin_lines =
    stmt.While (expr.Int (pos 1)) ∷
    stmt.Let (codes "i") (expr.Int (pos 0)) ∷
    stmt.End ∷
    []

abbrev pub spin_function : Function
spin_function = record { name = codes "spin"; params = []; lines = spin_lines }
