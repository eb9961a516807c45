-- Values, calls, heads of functions and statements, from tokens.
use Rattle.std.specs.Prelude.{ℕ, ◌+◌, ◌^◌, List, [], ◌∷◌, drop, Option, Some, None, if◌then◌else◌, bytes_eq, codes}
use Rattle.lb_base.specs.declared.value.Value.{Value}
use Rattle.boki_types.specs.declared.expr.Expr.{Expr}
use Rattle.boki_types.specs.declared.program.Stmt.{Stmt}
use Rattle.boki_types.specs.declared.program.Stmt.TheVariants as s
use Rattle.line_text.specs.declared.token.Keyword.{Keyword}
use Rattle.line_text.specs.declared.token.Keyword.TheVariants as k
use Rattle.line_text.specs.declared.token.Punctuation.TheVariants as m
use Rattle.line_text.specs.declared.token.Token.{Token}
use Rattle.line_text.specs.declared.token.Token.TheVariants as t
use Rattle.line_text.specs.declared.checked.Checked.{Checked}
use Rattle.line_text.specs.declared.checked.Checked.TheVariants as r
use Rattle.line_text.specs.declared.lists.CommaList.{CommaList}
use Rattle.script_lang.specs.declared.setters.Setter.{Setter}
use Rattle.script_lang.specs.declared.setters.Setter.TheVariants as g
use Rattle.line_text.specs.Stream.{keyword_at}
use Rattle.script_lang.specs.Expressions.{expr_at}
use Rattle.line_text.specs.Readers.{◌>>=◌, Reader, expect, if_at_end, name_at, value_at}
use Rattle.line_text.specs.Checks.{map_checked, both_checked}
use Rattle.line_text.specs.Lists.{comma_list, up_to_eight, paren_list}

-- `V = E`
abbrev pub assignment_at : Reader (List ℕ × Expr)
assignment_at ts = do
  name ← name_at ts
  rest ← expect m.Assign name.1
  x ← expr_at rest
  Some (both_checked name.0 x.0, x.1)

-- `E = E`
abbrev pub pair_at : Reader (Expr × Expr)
pair_at ts = do
  x ← expr_at ts
  rest ← expect m.Assign x.1
  y ← expr_at rest
  Some (both_checked x.0 y.0, y.1)

-- a name, and a list in parentheses behind it
abbrev pub name_and_list : {A : Type 0} → Reader A → List Token → Option ((Checked (List ℕ) × CommaList A) × List Token)
name_and_list read ts = do
  name ← name_at ts
  rest ← expect m.Open name.1
  xs ← paren_list read rest
  Some ((name.0, xs.0), xs.1)

-- the call `F(VALUE, ..)`, of any number of values
abbrev pub call_at : Reader (List ℕ × List Value)
call_at ts = do
  call ← name_and_list value_at ts
  Some (both_checked call.0.0 call.0.1.items, call.1)

-- `function F(P, P)`, alone on its line
abbrev pub behind_function : List Token → Option (Checked (List ℕ × List (List ℕ)))
behind_function ts = do
  head ← name_and_list name_at ts
  if_at_end head.1 (both_checked head.0.0 (up_to_eight head.0.1))

abbrev pub function_head_of : List Token → Option (Checked (List ℕ × List (List ℕ)))
function_head_of (t.Keyword k.Function ∷ ts) = behind_function ts
function_head_of _ = None

-- What stands behind `let V =`.
abbrev pub setter_of : Option Keyword → Setter
setter_of None = g.Value
setter_of (Some k.Read) = g.Read
setter_of (Some k.Spawn) = g.Spawn
setter_of (Some k.Join) = g.Join
setter_of (Some k.Pop) = g.Pop
setter_of (Some k.Commit) = g.Commit
setter_of (Some _) = g.Value

abbrev pub setter_by : Setter → List Token → Setter × List Token
setter_by g.Value ts = (g.Value, ts)
setter_by g.Read ts = (g.Read, drop 1 ts)
setter_by g.Spawn ts = (g.Spawn, drop 1 ts)
setter_by g.Join ts = (g.Join, drop 1 ts)
setter_by g.Pop ts = (g.Pop, drop 1 ts)
setter_by g.Commit ts = (g.Commit, drop 1 ts)

abbrev pub setter_at : List Token → Setter × List Token
setter_at ts = setter_by (setter_of (keyword_at ts)) ts

abbrev pub set_value : (List ℕ → Expr → Stmt) → Checked (List ℕ) → List Token → Option (Checked Stmt)
set_value make name ts = do
  x ← expr_at ts
  if_at_end x.1 (map_checked (λ p. make p.0 p.1) (both_checked name x.0))

abbrev pub set_spawn : Checked (List ℕ) → List Token → Option (Checked Stmt)
set_spawn name ts = do
  call ← name_and_list expr_at ts
  if_at_end call.1 (map_checked (λ p. s.Spawn p.0.0 p.0.1 p.1) (both_checked (both_checked name call.0.0) call.0.1.items))

abbrev pub make_commit : Checked (List ℕ) → Checked (List (Expr × Expr)) → Checked Stmt
make_commit name writes = map_checked (λ p. s.Commit p.0 p.1) (both_checked name writes)

abbrev pub set_commit : Checked (List ℕ) → List Token → Option (Checked Stmt)
set_commit name [] = Some (make_commit name (r.Valid []))
set_commit name (t ∷ ts) = do
  writes ← comma_list pair_at (t ∷ ts)
  if_at_end writes.1 (make_commit name (up_to_eight writes.0))

abbrev pub set_by : Checked (List ℕ) → Setter × List Token → Option (Checked Stmt)
set_by name (g.Value, ts) = set_value s.Let name ts
set_by name (g.Read, ts) = set_value s.Read name ts
set_by name (g.Spawn, ts) = set_spawn name ts
set_by name (g.Join, ts) = set_value s.Join name ts
set_by name (g.Pop, ts) = set_value s.Pop name ts
set_by name (g.Commit, ts) = set_commit name ts

abbrev pub let_of : List Token → Option (Checked Stmt)
let_of ts = do
  name ← name_at ts
  rest ← expect m.Assign name.1
  set_by name.0 (setter_at rest)

-- `write E, E`, `push E, E`
abbrev pub pair_stmt_of : (Expr → Expr → Stmt) → List Token → Option (Checked Stmt)
pair_stmt_of make ts = do
  x ← expr_at ts
  rest ← expect m.Comma x.1
  y ← expr_at rest
  if_at_end y.1 (map_checked (λ p. make p.0 p.1) (both_checked x.0 y.0))

-- `if E`, `while E`, `return E`
abbrev pub expr_stmt_of : (Expr → Stmt) → List Token → Option (Checked Stmt)
expr_stmt_of make ts = do
  x ← expr_at ts
  if_at_end x.1 (map_checked make x.0)

-- `begin V = E, V = E`, `read all V = E, V = E`: none is out of range
abbrev pub group_stmt_of : (List (List ℕ × Expr) → Stmt) → List Token → Option (Checked Stmt)
group_stmt_of make [] = Some r.OutOfRange
group_stmt_of make (t ∷ ts) = do
  pairs ← comma_list assignment_at (t ∷ ts)
  if_at_end pairs.1 (map_checked make (up_to_eight pairs.0))

-- `read all`
abbrev pub read_all_of : List Token → Option (Checked Stmt)
read_all_of (t.Name x ∷ ts) = if bytes_eq x (codes "all") then group_stmt_of s.ReadAll ts else None
read_all_of _ = None

abbrev pub behind_keyword : Keyword → List Token → Option (Checked Stmt)
behind_keyword k.Let ts = let_of ts
behind_keyword k.Read ts = read_all_of ts
behind_keyword k.Write ts = pair_stmt_of s.Write ts
behind_keyword k.Push ts = pair_stmt_of s.Push ts
behind_keyword k.Begin ts = group_stmt_of s.Begin ts
behind_keyword k.If ts = expr_stmt_of s.If ts
behind_keyword k.Else ts = if_at_end ts (r.Valid s.Else)
behind_keyword k.While ts = expr_stmt_of s.While ts
behind_keyword k.End ts = if_at_end ts (r.Valid s.End)
behind_keyword k.Return ts = expr_stmt_of s.Return ts
behind_keyword _ ts = None

-- the statement of a line; None where its tokens are none
abbrev pub stmt_of : List Token → Option (Checked Stmt)
stmt_of (t.Keyword key ∷ ts) = behind_keyword key ts
stmt_of _ = None
