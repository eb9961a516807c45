-- The second pass over a program: names and numbers of arguments, line by line.
use Rattle.std.specs.Prelude.{◌≡◌, ℕ, ◌+◌, ◌==◌, ◌&&◌, ◌||◌, not, Bool, true, List, [], ◌∷◌, ◌++◌, length, map, take, get_or, Option, Some, None, if◌then◌else◌, bytes_eq}
use Rattle.std.specs.List.{list_all, list_any}
use Rattle.std.specs.HashSet.{HashSet}
use denote.Ref.{Bor}
use Rattle.boki_types.specs.declared.kind.Kind.{Kind}
use Rattle.boki_types.specs.declared.kind.Kind.TheVariants as kind
use Rattle.boki_types.specs.declared.expr.Expr.{Expr, more_of-Expr, end_of-Expr}
use Rattle.boki_types.specs.declared.expr.Expr.TheVariants as e
use Rattle.boki_types.specs.declared.program.Function.{Function}
use Rattle.boki_types.specs.declared.program.Stmt.{Stmt}
use Rattle.boki_types.specs.declared.program.Stmt.TheVariants as s
use Rattle.boki_model.specs.Plans.{variables_set, distinct}

-- whether a name is among these
abbrev pub is_among : List (List ℕ) → List ℕ → Bool
is_among known name = list_any (bytes_eq name) known

-- the names that a set of them holds
abbrev pub names_in : {S : Type 0} → HashSet (Bor (List ℕ)) S → List (List ℕ)
names_in known = map (λ k. k.now) known.keys

-- the same names are among both
abbrev pub AreSameNames : List (List ℕ) → List (List ℕ) → Type 0
AreSameNames xs ys = (name : List ℕ) → is_among xs name ≡ is_among ys name

-- whether all variables of an expression are known
abbrev pub vars_known : List (List ℕ) → Expr → Bool
vars_known known (e.Int n) = true
vars_known known (e.Text t) = true
vars_known known e.Nothing = true
vars_known known (e.Var x) = is_among known x
vars_known known (e.Not' p' (more_of-Expr a end_of-Expr)) = vars_known known a
vars_known known (e.Two' o p' (more_of-Expr a end_of-Expr) q' (more_of-Expr b end_of-Expr)) = vars_known known a && vars_known known b
vars_known known (e.TextOf' p' (more_of-Expr a end_of-Expr)) = vars_known known a
vars_known known (e.Len' p' (more_of-Expr a end_of-Expr)) = vars_known known a

-- whether all variables that a statement reads are known
abbrev pub reads_known : List (List ℕ) → Stmt → Bool
reads_known known (s.Let x a) = vars_known known a
reads_known known (s.Read x a) = vars_known known a
reads_known known (s.Write a b) = vars_known known a && vars_known known b
reads_known known (s.Spawn x f es) = list_all (vars_known known) es
reads_known known (s.Join x a) = vars_known known a
reads_known known (s.Push a b) = vars_known known a && vars_known known b
reads_known known (s.Pop x a) = vars_known known a
reads_known known (s.Begin pairs) = list_all (λ p. vars_known known p.1) pairs
reads_known known (s.Commit x pairs) = list_all (λ p. vars_known known p.0 && vars_known known p.1) pairs
reads_known known (s.If a) = vars_known known a
reads_known known s.Else = true
reads_known known (s.While a) = vars_known known a
reads_known known s.End = true
reads_known known (s.Return a) = vars_known known a
reads_known known (s.ReadAll pairs) = list_all (λ p. vars_known known p.1) pairs

-- what is wrong with a call of so many arguments: no function has the name, or the first that has it takes another number
abbrev pub call_fault : List Function → List ℕ → ℕ → Option Kind
call_fault [] name n = Some kind.Name
call_fault (f ∷ fs) name n =
    if bytes_eq name f.name then (if n == length f.params then None else Some kind.Arity) else call_fault fs name n

abbrev pub spawn_fault : List Function → Stmt → Option Kind
spawn_fault fs (s.Spawn x f es) = call_fault fs f (length es)
spawn_fault fs _ = None

-- a name comes before a number of arguments
abbrev pub line_fault : List Function → List (List ℕ) → Stmt → Option Kind
line_fault fs known l = if reads_known known l then spawn_fault fs l else Some kind.Name

-- a fault with the number of its line, or else those behind it
abbrev pub fault_or_rest : ℕ → Option Kind → Option (ℕ × Kind) → Option (ℕ × Kind)
fault_or_rest n (Some k) rest = Some (n, k)
fault_or_rest n None rest = rest

-- The first fault among the lines of a function. A variable is known where it is a parameter, or a line above sets it; the
-- numbers of the lines are those of ns from the place i on.
abbrev pub lines_fault : List Function → List (List ℕ) → List Stmt → List ℕ → ℕ → Option (ℕ × Kind)
lines_fault fs known [] ns i = None
lines_fault fs known (l ∷ ls) ns i =
    fault_or_rest (get_or ns i 0) (line_fault fs known l) (lines_fault fs (known ++ variables_set l) ls ns (i + 1))

-- the head of a function: its name is given twice, or a parameter
abbrev pub function_head_fault : List Function → Function → Option Kind
function_head_fault before f =
    if list_any (λ g. bytes_eq f.name g.name) before || not (distinct f.params) then Some kind.Name else None

-- the number of the head is the first
abbrev pub function_fault : List Function → List Function → Function → List ℕ → Option (ℕ × Kind)
function_fault fs before f ns =
    fault_or_rest (get_or ns 0 0) (function_head_fault before f) (lines_fault fs f.params f.lines ns 1)

abbrev pub fault_or_else : Option (ℕ × Kind) → Option (ℕ × Kind) → Option (ℕ × Kind)
fault_or_else (Some fault) rest = Some fault
fault_or_else None rest = rest

-- the first fault among the functions from the place i on, whose lines' numbers are in ms
abbrev pub functions_fault : List Function → List Function → List (List ℕ) → ℕ → Option (ℕ × Kind)
functions_fault fs [] ms i = None
functions_fault fs (f ∷ rest) ms i =
    fault_or_else (function_fault fs (take i fs) f (get_or ms i [])) (functions_fault fs rest ms (i + 1))

-- the first line with a fault, and which it is
abbrev pub name_fault : List Function → List (List ℕ) → Option (ℕ × Kind)
name_fault fs ms = functions_fault fs fs ms 0
