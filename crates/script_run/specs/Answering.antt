-- Answers: which an operation takes, and what they set.
use Rattle.std.specs.Prelude.{◌≡◌, ℕ, List, [], ◌∷◌, length, Option, Some, None, Result, Ok, Err}
use Rattle.lb_base.specs.declared.value.Value.{Value}
use Rattle.lb_base.specs.declared.value.TrapKind.{TrapKind}
use Rattle.boki_types.specs.declared.expr.Expr.{Expr}
use Rattle.boki_types.specs.declared.program.Stmt.{Stmt}
use Rattle.boki_types.specs.declared.program.Stmt.TheVariants as s
use Rattle.boki_types.specs.declared.operation.Op.{Op}
use Rattle.boki_types.specs.declared.operation.Op.TheVariants as o
use Rattle.boki_types.specs.declared.operation.Ask.{Ask}
use Rattle.boki_types.specs.declared.operation.Ask.TheVariants as k
use Rattle.boki_types.specs.declared.operation.Answer.{Answer}
use Rattle.boki_types.specs.declared.operation.Answer.TheVariants as a
use Rattle.boki_model.specs.Maps.{put}
use Rattle.boki_model.specs.Script as script

-- The answer is of the operation's kind: of a spawn the ordinal asked, and of a begin and a read of several objects a value for
-- each name.
abbrev pub IsOfKind : Op → Answer → Type 0
IsOfKind (o.Read key) (a.Value v) = Unit {0}
IsOfKind (o.Write key value) a.Done = Unit {0}
IsOfKind (o.Spawn ordinal f args) (a.Spawned n) = n ≡ ordinal
IsOfKind (o.Join ordinal) (a.Joined outcome) = Unit {0}
IsOfKind (o.Push queue value) a.Done = Unit {0}
IsOfKind (o.Pop queue) (a.Value v) = Unit {0}
IsOfKind (o.Begin names) (a.Values vs) = length vs ≡ length names
IsOfKind (o.Commit names writes) (a.Committed good) = Unit {0}
IsOfKind (o.ReadGroup keys) (a.Values vs) = length vs ≡ length keys
IsOfKind _ _ = ⊥

-- an operation is asked, and the answer is of its kind
abbrev pub Takes : Ask → Answer → Type 0
Takes (k.Op op) answer = IsOfKind op answer
Takes (k.Done outcome) answer = ⊥

-- variables that are set in turn
abbrev pub put_each : List (List ℕ) → List Value → List (List ℕ × Value) → List (List ℕ × Value)
put_each [] vs entries = entries
put_each (x ∷ xs) [] entries = entries
put_each (x ∷ xs) (v ∷ vs) entries = put_each xs vs (put x v entries)

-- the one variable of a line that asks
abbrev pub variable_of : Stmt → Option (List ℕ)
variable_of (s.Read x e) = Some x
variable_of (s.Spawn x f es) = Some x
variable_of (s.Join x e) = Some x
variable_of (s.Pop x e) = Some x
variable_of (s.Commit x pairs) = Some x
variable_of _ = None

-- the variables of a line that asks several values
abbrev pub pairs_of : Stmt → Option (List (List ℕ × Expr))
pairs_of (s.Begin pairs) = Some pairs
pairs_of (s.ReadAll pairs) = Some pairs
pairs_of _ = None

abbrev pub put_one : Option (List ℕ) → Value → List (List ℕ × Value) → List (List ℕ × Value)
put_one (Some x) v entries = put x v entries
put_one None v entries = entries

abbrev pub put_pairs : Option (List (List ℕ × Expr)) → List Value → List (List ℕ × Value) → List (List ℕ × Value)
put_pairs (Some pairs) vs entries = put_each (script.pair_names pairs) vs entries
put_pairs None vs entries = entries

-- the state behind an answer, or the trap of a join
abbrev pub received : Option TrapKind → script.State → Result script.State TrapKind
received None t = Ok t
received (Some why) t = Err why
