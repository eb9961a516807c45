-- Loops, branches and operators: scripts that ask no operation.
-- tools/rows.py makes this file from examples/branches.plan and .out.
use Rattle.std.specs.Prelude.{pos, negsuc, List, [], ◌∷◌, None, codes}
use Rattle.lb_base.specs.declared.value.Value.TheVariants.{Int, Text, Nothing}
use Rattle.lb_base.specs.declared.value.Mode.TheVariants.{R}
use Rattle.lb_base.specs.declared.value.Outcome.TheVariants.{Good}
use Rattle.boki_types.specs.declared.plan.Plan.{Plan}
use Rattle.boki_types.specs.declared.event.Event.{Event}
use Rattle.boki_types.specs.declared.line.Line.{Line}
use Rattle.boki_types.specs.declared.turn.Report.{Report}
use Rattle.boki_types.specs.declared.program.Function.{Function}
use Rattle.boki_types.specs.declared.program.Stmt.{Stmt}
use Rattle.boki_machine.specs.Step.{seqnum}
use Rattle.computed_examples.specs.Computed.{Computes, sent, one_by_one}
use Rattle.boki_types.specs.declared.event.Event.TheVariants as event
use Rattle.boki_types.specs.declared.line.Line.TheVariants as line
use Rattle.boki_types.specs.declared.line.StepLine.TheVariants as step
use Rattle.boki_types.specs.declared.program.Stmt.TheVariants as stmt
use Rattle.boki_types.specs.declared.expr.Expr.TheVariants as expr
use Rattle.boki_types.specs.declared.expr.BinOp.TheVariants as op
use Rattle.boki_types.specs.declared.turn.Turn.TheVariants as turn

abbrev pub steps_to_one_lines : List Stmt
steps_to_one_lines =
    stmt.Let (codes "c") (expr.Int (pos 0)) ∷
    stmt.While (expr.Two op.Ne (expr.Var (codes "n")) (expr.Int (pos 1))) ∷
    stmt.If (expr.Two op.Eq (expr.Two op.Rem (expr.Var (codes "n")) (expr.Int (pos 2))) (expr.Int (pos 0))) ∷
    stmt.Let (codes "n") (expr.Two op.Div (expr.Var (codes "n")) (expr.Int (pos 2))) ∷
    stmt.Else ∷
    stmt.Let (codes "n") (expr.Two op.Add (expr.Two op.Mul (expr.Int (pos 3)) (expr.Var (codes "n"))) (expr.Int (pos 1))) ∷
    stmt.End ∷
    stmt.Let (codes "c") (expr.Two op.Add (expr.Var (codes "c")) (expr.Int (pos 1))) ∷
    stmt.End ∷
    stmt.Return (expr.Var (codes "c")) ∷
    []

abbrev pub steps_to_one_function : Function
steps_to_one_function = record { name = codes "steps_to_one"; params = codes "n" ∷ []; lines = steps_to_one_lines }

abbrev pub counts_down_lines : List Stmt
counts_down_lines =
    stmt.If (expr.Var (codes "x")) ∷
    stmt.While (expr.Var (codes "x")) ∷
    stmt.Let (codes "x") (expr.Two op.Sub (expr.Var (codes "x")) (expr.Int (pos 1))) ∷
    stmt.If (expr.Two op.Eq (expr.Var (codes "x")) (expr.Int (pos 2))) ∷
    stmt.Return (expr.Text (codes "two")) ∷
    stmt.End ∷
    stmt.End ∷
    stmt.Else ∷
    stmt.Return (expr.Text (codes "zero")) ∷
    stmt.End ∷
    []

abbrev pub counts_down_function : Function
counts_down_function = record { name = codes "counts_down"; params = codes "x" ∷ []; lines = counts_down_lines }

abbrev pub decides_lines : List Stmt
decides_lines =
    stmt.Return (expr.Two op.Sub (expr.Two op.Add (expr.Two op.Or (expr.Int (pos 1)) expr.Nothing) (expr.Two op.Mul (expr.Two op.And (expr.Int (pos 0)) expr.Nothing) (expr.Int (pos 7)))) (expr.Two op.Rem (expr.Int (negsuc 2)) (expr.Int (pos 2)))) ∷
    []

abbrev pub decides_function : Function
decides_function = record { name = codes "decides"; params = []; lines = decides_lines }

abbrev pub compares_lines : List Stmt
compares_lines =
    stmt.Return (expr.Two op.Add (expr.Two op.Add (expr.Two op.Add (expr.Two op.Lt (expr.Text (codes "a")) (expr.Text (codes "ab"))) (expr.Two op.Mul (expr.Two op.Ge (expr.Text (codes "b")) (expr.Text (codes "a"))) (expr.Int (pos 10)))) (expr.Two op.Mul (expr.Two op.Eq (expr.Int (pos 1)) (expr.Text (codes "1"))) (expr.Int (pos 100)))) (expr.Two op.Mul (expr.Not (expr.Int (pos 0))) (expr.Int (pos 1000)))) ∷
    []

abbrev pub compares_function : Function
compares_function = record { name = codes "compares"; params = []; lines = compares_lines }

abbrev pub glues_lines : List Stmt
glues_lines =
    stmt.Return (expr.Len (expr.Two op.Glue (expr.Text (codes "ab")) (expr.Text (codes "c")))) ∷
    []

abbrev pub glues_function : Function
glues_function = record { name = codes "glues"; params = []; lines = glues_lines }

abbrev pub events : List Event
events =
    event.Submit 1 1 0 (Int (pos 6) ∷ []) ∷
    event.Submit 1 2 1 (Int (pos 5) ∷ []) ∷
    event.Submit 1 3 1 (Int (pos 1) ∷ []) ∷
    event.Submit 1 4 1 (Int (pos 0) ∷ []) ∷
    event.Submit 1 5 2 [] ∷
    event.Submit 1 6 3 [] ∷
    event.Submit 1 7 4 [] ∷
    event.Sync ∷
    event.Start 1 (1 ∷ []) 1 ∷
    event.Start 2 (2 ∷ []) 1 ∷
    event.Start 3 (3 ∷ []) 1 ∷
    event.Start 4 (4 ∷ []) 1 ∷
    event.Start 5 (5 ∷ []) 1 ∷
    event.Start 6 (6 ∷ []) 1 ∷
    event.Start 7 (7 ∷ []) 1 ∷
    event.Step 1 ∷
    event.Step 2 ∷
    event.Step 3 ∷
    event.Step 4 ∷
    event.Step 5 ∷
    event.Step 6 ∷
    event.Step 7 ∷
    event.Sync ∷
    event.Step 1 ∷
    event.Step 2 ∷
    event.Step 3 ∷
    event.Step 4 ∷
    event.Step 5 ∷
    event.Step 6 ∷
    event.Step 7 ∷
    event.Step 1 ∷
    event.Step 2 ∷
    event.Step 3 ∷
    event.Step 4 ∷
    event.Step 5 ∷
    event.Step 6 ∷
    event.Step 7 ∷
    event.Sync ∷
    []

abbrev pub plan : Plan
plan = record {
  setup = record { shards = 1; replicas = 1; engines = 1; mode = R; newer = None };
  objects = [];
  program = record { functions = steps_to_one_function ∷ counts_down_function ∷ decides_function ∷ compares_function ∷ glues_function ∷ [] };
  items = one_by_one events;
}

abbrev pub lines : List Line
lines =
    line.Sent (sent 1 1) ∷
    line.Sent (sent 1 2) ∷
    line.Sent (sent 1 3) ∷
    line.Sent (sent 1 4) ∷
    line.Sent (sent 1 5) ∷
    line.Sent (sent 1 6) ∷
    line.Sent (sent 1 7) ∷
    line.Sync 7 ∷
    line.Started ∷
    line.Started ∷
    line.Started ∷
    line.Started ∷
    line.Started ∷
    line.Started ∷
    line.Started ∷
    line.Step (step.SendInit (sent 1 8)) ∷
    line.Step (step.SendInit (sent 1 9)) ∷
    line.Step (step.SendInit (sent 1 10)) ∷
    line.Step (step.SendInit (sent 1 11)) ∷
    line.Step (step.SendInit (sent 1 12)) ∷
    line.Step (step.SendInit (sent 1 13)) ∷
    line.Step (step.SendInit (sent 1 14)) ∷
    line.Sync 14 ∷
    line.Step (step.AdoptInit (seqnum 8) R) ∷
    line.Step (step.AdoptInit (seqnum 9) R) ∷
    line.Step (step.AdoptInit (seqnum 10) R) ∷
    line.Step (step.AdoptInit (seqnum 11) R) ∷
    line.Step (step.AdoptInit (seqnum 12) R) ∷
    line.Step (step.AdoptInit (seqnum 13) R) ∷
    line.Step (step.AdoptInit (seqnum 14) R) ∷
    line.Step (step.SendFinish (sent 1 15) (Good (Int (pos 8)))) ∷
    line.Step (step.SendFinish (sent 1 16) (Good (Text (codes "two")))) ∷
    line.Step (step.SendFinish (sent 1 17) (Good Nothing)) ∷
    line.Step (step.SendFinish (sent 1 18) (Good (Text (codes "zero")))) ∷
    line.Step (step.SendFinish (sent 1 19) (Good (Int (pos 2)))) ∷
    line.Step (step.SendFinish (sent 1 20) (Good (Int (pos 1011)))) ∷
    line.Step (step.SendFinish (sent 1 21) (Good (Int (pos 3)))) ∷
    line.Sync 21 ∷
    []

abbrev pub report : Report
report = record {
  turns = turn.Submit 1 0 (Int (pos 6) ∷ []) ∷ turn.Submit 2 1 (Int (pos 5) ∷ []) ∷ turn.Submit 3 1 (Int (pos 1) ∷ []) ∷ turn.Submit 4 1 (Int (pos 0) ∷ []) ∷ turn.Submit 5 2 [] ∷ turn.Submit 6 3 [] ∷ turn.Submit 7 4 [] ∷ turn.Go (1 ∷ []) 0 ∷ turn.Go (2 ∷ []) 0 ∷ turn.Go (3 ∷ []) 0 ∷ turn.Go (4 ∷ []) 0 ∷ turn.Go (5 ∷ []) 0 ∷ turn.Go (6 ∷ []) 0 ∷ turn.Go (7 ∷ []) 0 ∷ turn.End (1 ∷ []) ∷ turn.End (2 ∷ []) ∷ turn.End (3 ∷ []) ∷ turn.End (4 ∷ []) ∷ turn.End (5 ∷ []) ∷ turn.End (6 ∷ []) ∷ turn.End (7 ∷ []) ∷ [];
  results = (1 ∷ [], Good (Int (pos 8))) ∷ (2 ∷ [], Good (Text (codes "two"))) ∷ (3 ∷ [], Good Nothing) ∷ (4 ∷ [], Good (Text (codes "zero"))) ∷ (5 ∷ [], Good (Int (pos 2))) ∷ (6 ∷ [], Good (Int (pos 1011))) ∷ (7 ∷ [], Good (Int (pos 3))) ∷ [];
  objects = [];
  queues = [];
  stores = [];
}

abbrev pub BranchesRun : Type 0
BranchesRun = Computes plan lines report
