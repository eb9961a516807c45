-- What a frame keeps, and where the script stands by it.
use Rattle.std.specs.Prelude.{ℕ, ◌+◌, List, [], ◌∷◌, Option, Some, None, slice_get, drop, option_and_then}
use Rattle.lb_base.specs.declared.value.Value.{Value}
use Rattle.boki_types.specs.declared.expr.Expr.{Expr}
use Rattle.boki_types.specs.declared.program.Stmt.{Stmt}
use Rattle.boki_types.specs.declared.program.Stmt.TheVariants as s
use Rattle.boki_types.specs.declared.operation.Ask.{Ask}
use Rattle.boki_types.specs.declared.operation.Ask.TheVariants as k
use Rattle.boki_model.specs.Script as script
use Rattle.boki_model.specs.Script.{pair_names}
use Rattle.script_run.specs.declared.state.State.{State}
use Rattle.script_run.specs.declared.state.Block.{Block}
use Rattle.script_run.specs.declared.state.Block.TheVariants as b

-- the condition of a `while`
abbrev pub while_of : Stmt → Option Expr
while_of (s.While e) = Some e
while_of _ = None

-- the loop of such a line, with the lines behind it
abbrev pub loop_of : Option Expr → List Stmt → script.Block
loop_of (Some e) body = script.Loop e body
loop_of None body = script.Branch

-- a block, whose loop is given by the number of its line
abbrev pub block_of : List Stmt → Block → script.Block
block_of lines b.Branch = script.Branch
block_of lines (b.Loop at) = loop_of (option_and_then while_of (slice_get lines at)) (drop (at + 1) lines)

-- blocks, of which the innermost stands last, before these
abbrev pub blocks_before : List Stmt → List script.Block → List Block → List script.Block
blocks_before lines inner [] = inner
blocks_before lines inner (x ∷ xs) = blocks_before lines (block_of lines x ∷ inner) xs

abbrev pub blocks_of : List Stmt → List Block → List script.Block
blocks_of lines xs = blocks_before lines [] xs

-- the variables that the answer of a line sets
abbrev pub target_of : Option Stmt → script.Target
target_of (Some (s.Read x e)) = script.One x
target_of (Some (s.Spawn x f es)) = script.One x
target_of (Some (s.Join x e)) = script.One x
target_of (Some (s.Pop x e)) = script.One x
target_of (Some (s.Begin pairs)) = script.Each (pair_names pairs)
target_of (Some (s.Commit x pairs)) = script.One x
target_of (Some (s.ReadAll pairs)) = script.Each (pair_names pairs)
target_of _ = script.Nowhere

-- where a script stands that asks at the line of this number, or is done
abbrev pub stop_point_at : List Stmt → Ask → ℕ → script.State → script.StopPoint
stop_point_at lines (k.Op op) at t = script.AtOperation op (target_of (slice_get lines at)) (drop (at + 1) lines) t
stop_point_at lines (k.Done outcome) at t = script.AtEnd outcome

-- what a script has made so far, as a frame keeps it
pub record LocalState : Type 0 where
  pub variables : List (List ℕ × Value)
  pub blocks : List Block
  pub spawned : ℕ
  pub transaction : Option (List (List ℕ))

abbrev pub local_state_of : State → LocalState
local_state_of m = record { variables = m.variables.items; blocks = m.blocks.items; spawned = m.spawned; transaction = m.transaction }

abbrev pub state_from : List Stmt → LocalState → script.State
state_from lines m = record { variables = m.variables; blocks = blocks_of lines m.blocks; spawned = m.spawned; transaction = m.transaction }

abbrev pub state_of : List Stmt → State → script.State
state_of lines m = state_from lines (local_state_of m)
