-- One trap of each other kind, and which comes first where two could.
-- tools/rows.py makes this file from examples/trap_kinds.plan and .out.
use Rattle.std.specs.Prelude.{pos, negsuc, List, [], ◌∷◌, None, codes}
use Rattle.lb_base.specs.declared.value.Mode.TheVariants.{R}
use Rattle.lb_base.specs.declared.value.Outcome.TheVariants.{Trap}
use Rattle.boki_types.specs.declared.plan.Plan.{Plan}
use Rattle.boki_types.specs.declared.event.Event.{Event}
use Rattle.boki_types.specs.declared.line.Line.{Line}
use Rattle.boki_types.specs.declared.turn.Report.{Report}
use Rattle.boki_types.specs.declared.program.Function.{Function}
use Rattle.boki_types.specs.declared.program.Stmt.{Stmt}
use Rattle.boki_machine.specs.Step.{seqnum}
use Rattle.computed_examples.specs.Computed.{Computes, sent, one_by_one}
use Rattle.boki_types.specs.declared.event.Event.TheVariants as event
use Rattle.boki_types.specs.declared.line.Line.TheVariants as line
use Rattle.boki_types.specs.declared.line.StepLine.TheVariants as step
use Rattle.boki_types.specs.declared.program.Stmt.TheVariants as stmt
use Rattle.boki_types.specs.declared.expr.Expr.TheVariants as expr
use Rattle.boki_types.specs.declared.expr.BinOp.TheVariants as op
use Rattle.boki_types.specs.declared.turn.Turn.TheVariants as turn
use Rattle.lb_base.specs.declared.value.TrapKind.TheVariants as trap

abbrev pub divides_lines : List Stmt
divides_lines =
    stmt.Return (expr.Two op.Add expr.Nothing (expr.Two op.Div (expr.Int (pos 1)) (expr.Int (pos 0)))) ∷
    []

abbrev pub divides_function : Function
divides_function = record { name = codes "divides"; params = []; lines = divides_lines }

abbrev pub adds_lines : List Stmt
adds_lines =
    stmt.Return (expr.Two op.Add expr.Nothing (expr.Int (pos 1))) ∷
    []

abbrev pub adds_function : Function
adds_function = record { name = codes "adds"; params = []; lines = adds_lines }

abbrev pub names_lines : List Stmt
names_lines =
    stmt.Write (expr.Two op.Add (expr.Int (pos 5)) (expr.Int (pos 1))) (expr.Int (pos 1)) ∷
    stmt.Return (expr.Int (pos 0)) ∷
    []

abbrev pub names_function : Function
names_function = record { name = codes "names"; params = []; lines = names_lines }

abbrev pub pushes_lines : List Stmt
pushes_lines =
    stmt.Push (expr.Text (codes "q")) expr.Nothing ∷
    stmt.Return (expr.Int (pos 0)) ∷
    []

abbrev pub pushes_function : Function
pushes_function = record { name = codes "pushes"; params = []; lines = pushes_lines }

abbrev pub pushes_nowhere_lines : List Stmt
pushes_nowhere_lines =
    stmt.Push (expr.Text (codes "")) expr.Nothing ∷
    stmt.Return (expr.Int (pos 0)) ∷
    []

abbrev pub pushes_nowhere_function : Function
pushes_nowhere_function = record { name = codes "pushes_nowhere"; params = []; lines = pushes_nowhere_lines }

abbrev pub commits_lines : List Stmt
commits_lines =
    stmt.Commit (codes "ok") [] ∷
    stmt.Return (expr.Int (pos 0)) ∷
    []

abbrev pub commits_function : Function
commits_function = record { name = codes "commits"; params = []; lines = commits_lines }

abbrev pub joins_lines : List Stmt
joins_lines =
    stmt.Join (codes "r") expr.Nothing ∷
    stmt.Return (expr.Int (pos 0)) ∷
    []

abbrev pub joins_function : Function
joins_function = record { name = codes "joins"; params = []; lines = joins_lines }

abbrev pub grows_lines : List Stmt
grows_lines =
    stmt.Let (codes "t") (expr.Text (codes "ab")) ∷
    stmt.While (expr.Int (pos 1)) ∷
    stmt.Let (codes "t") (expr.Two op.Glue (expr.Var (codes "t")) (expr.Var (codes "t"))) ∷
    stmt.End ∷
    []

abbrev pub grows_function : Function
grows_function = record { name = codes "grows"; params = []; lines = grows_lines }

abbrev pub least_lines : List Stmt
least_lines =
    stmt.Let (codes "n") (expr.Two op.Sub (expr.Int (negsuc 9223372036854775806)) (expr.Int (pos 1))) ∷
    stmt.Return (expr.Two op.Rem (expr.Var (codes "n")) (expr.Int (negsuc 0))) ∷
    []

abbrev pub least_function : Function
least_function = record { name = codes "least"; params = []; lines = least_lines }

abbrev pub events : List Event
events =
    event.Submit 1 1 0 [] ∷
    event.Submit 1 2 1 [] ∷
    event.Submit 1 3 2 [] ∷
    event.Submit 1 4 3 [] ∷
    event.Submit 1 5 4 [] ∷
    event.Submit 1 6 5 [] ∷
    event.Submit 1 7 6 [] ∷
    event.Submit 1 8 7 [] ∷
    event.Submit 1 9 8 [] ∷
    event.Sync ∷
    event.Start 1 (1 ∷ []) 1 ∷
    event.Start 2 (2 ∷ []) 1 ∷
    event.Start 3 (3 ∷ []) 1 ∷
    event.Start 4 (4 ∷ []) 1 ∷
    event.Start 5 (5 ∷ []) 1 ∷
    event.Start 6 (6 ∷ []) 1 ∷
    event.Start 7 (7 ∷ []) 1 ∷
    event.Start 8 (8 ∷ []) 1 ∷
    event.Start 9 (9 ∷ []) 1 ∷
    event.Step 1 ∷
    event.Step 2 ∷
    event.Step 3 ∷
    event.Step 4 ∷
    event.Step 5 ∷
    event.Step 6 ∷
    event.Step 7 ∷
    event.Step 8 ∷
    event.Step 9 ∷
    event.Sync ∷
    event.Step 1 ∷
    event.Step 2 ∷
    event.Step 3 ∷
    event.Step 4 ∷
    event.Step 5 ∷
    event.Step 6 ∷
    event.Step 7 ∷
    event.Step 8 ∷
    event.Step 9 ∷
    event.Step 1 ∷
    event.Step 2 ∷
    event.Step 3 ∷
    event.Step 4 ∷
    event.Step 5 ∷
    event.Step 6 ∷
    event.Step 7 ∷
    event.Step 8 ∷
    event.Step 9 ∷
    event.Sync ∷
    []

abbrev pub plan : Plan
plan = record {
  setup = record { shards = 1; replicas = 1; engines = 1; mode = R; newer = None };
  objects = [];
  program = record { functions = divides_function ∷ adds_function ∷ names_function ∷ pushes_function ∷ pushes_nowhere_function ∷ commits_function ∷ joins_function ∷ grows_function ∷ least_function ∷ [] };
  items = one_by_one events;
}

abbrev pub lines : List Line
lines =
    line.Sent (sent 1 1) ∷
    line.Sent (sent 1 2) ∷
    line.Sent (sent 1 3) ∷
    line.Sent (sent 1 4) ∷
    line.Sent (sent 1 5) ∷
    line.Sent (sent 1 6) ∷
    line.Sent (sent 1 7) ∷
    line.Sent (sent 1 8) ∷
    line.Sent (sent 1 9) ∷
    line.Sync 9 ∷
    line.Started ∷
    line.Started ∷
    line.Started ∷
    line.Started ∷
    line.Started ∷
    line.Started ∷
    line.Started ∷
    line.Started ∷
    line.Started ∷
    line.Step (step.SendInit (sent 1 10)) ∷
    line.Step (step.SendInit (sent 1 11)) ∷
    line.Step (step.SendInit (sent 1 12)) ∷
    line.Step (step.SendInit (sent 1 13)) ∷
    line.Step (step.SendInit (sent 1 14)) ∷
    line.Step (step.SendInit (sent 1 15)) ∷
    line.Step (step.SendInit (sent 1 16)) ∷
    line.Step (step.SendInit (sent 1 17)) ∷
    line.Step (step.SendInit (sent 1 18)) ∷
    line.Sync 18 ∷
    line.Step (step.AdoptInit (seqnum 10) R) ∷
    line.Step (step.AdoptInit (seqnum 11) R) ∷
    line.Step (step.AdoptInit (seqnum 12) R) ∷
    line.Step (step.AdoptInit (seqnum 13) R) ∷
    line.Step (step.AdoptInit (seqnum 14) R) ∷
    line.Step (step.AdoptInit (seqnum 15) R) ∷
    line.Step (step.AdoptInit (seqnum 16) R) ∷
    line.Step (step.AdoptInit (seqnum 17) R) ∷
    line.Step (step.AdoptInit (seqnum 18) R) ∷
    line.Step (step.SendFinish (sent 1 19) (Trap trap.Divide)) ∷
    line.Step (step.SendFinish (sent 1 20) (Trap trap.Kind)) ∷
    line.Step (step.SendFinish (sent 1 21) (Trap trap.Key)) ∷
    line.Step (step.SendFinish (sent 1 22) (Trap trap.Kind)) ∷
    line.Step (step.SendFinish (sent 1 23) (Trap trap.Key)) ∷
    line.Step (step.SendFinish (sent 1 24) (Trap trap.Txn)) ∷
    line.Step (step.SendFinish (sent 1 25) (Trap trap.Join)) ∷
    line.Step (step.SendFinish (sent 1 26) (Trap trap.Text)) ∷
    line.Step (step.SendFinish (sent 1 27) (Trap trap.Overflow)) ∷
    line.Sync 27 ∷
    []

abbrev pub report : Report
report = record {
  turns = turn.Submit 1 0 [] ∷ turn.Submit 2 1 [] ∷ turn.Submit 3 2 [] ∷ turn.Submit 4 3 [] ∷ turn.Submit 5 4 [] ∷ turn.Submit 6 5 [] ∷ turn.Submit 7 6 [] ∷ turn.Submit 8 7 [] ∷ turn.Submit 9 8 [] ∷ turn.Go (1 ∷ []) 0 ∷ turn.Go (2 ∷ []) 0 ∷ turn.Go (3 ∷ []) 0 ∷ turn.Go (4 ∷ []) 0 ∷ turn.Go (5 ∷ []) 0 ∷ turn.Go (6 ∷ []) 0 ∷ turn.Go (7 ∷ []) 0 ∷ turn.Go (8 ∷ []) 0 ∷ turn.Go (9 ∷ []) 0 ∷ turn.End (1 ∷ []) ∷ turn.End (2 ∷ []) ∷ turn.End (3 ∷ []) ∷ turn.End (4 ∷ []) ∷ turn.End (5 ∷ []) ∷ turn.End (6 ∷ []) ∷ turn.End (7 ∷ []) ∷ turn.End (8 ∷ []) ∷ turn.End (9 ∷ []) ∷ [];
  results = (1 ∷ [], Trap trap.Divide) ∷ (2 ∷ [], Trap trap.Kind) ∷ (3 ∷ [], Trap trap.Key) ∷ (4 ∷ [], Trap trap.Kind) ∷ (5 ∷ [], Trap trap.Key) ∷ (6 ∷ [], Trap trap.Txn) ∷ (7 ∷ [], Trap trap.Join) ∷ (8 ∷ [], Trap trap.Text) ∷ (9 ∷ [], Trap trap.Overflow) ∷ [];
  objects = [];
  queues = [];
  stores = [];
}

abbrev pub TrapKindsRun : Type 0
TrapKindsRun = Computes plan lines report
