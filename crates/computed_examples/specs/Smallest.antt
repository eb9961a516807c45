-- The smallest run: one invocation writes an object, reads it and ends.
-- tools/rows.py makes this file from examples/smallest.plan and .out.
use Rattle.std.specs.Prelude.{pos, List, [], ◌∷◌, None, codes}
use Rattle.lb_base.specs.declared.value.Value.TheVariants.{Int}
use Rattle.lb_base.specs.declared.value.Mode.TheVariants.{R}
use Rattle.lb_base.specs.declared.value.Outcome.TheVariants.{Good}
use Rattle.boki_types.specs.declared.plan.Plan.{Plan}
use Rattle.boki_types.specs.declared.event.Event.{Event}
use Rattle.boki_types.specs.declared.line.Line.{Line}
use Rattle.boki_types.specs.declared.turn.Report.{Report}
use Rattle.boki_types.specs.declared.program.Function.{Function}
use Rattle.boki_types.specs.declared.program.Stmt.{Stmt}
use Rattle.boki_machine.specs.Step.{seqnum}
use Rattle.computed_examples.specs.Computed.{Computes, sent, one_by_one}
use Rattle.boki_types.specs.declared.event.Event.TheVariants as event
use Rattle.boki_types.specs.declared.line.Line.TheVariants as line
use Rattle.boki_types.specs.declared.line.StepLine.TheVariants as step
use Rattle.boki_types.specs.declared.program.Stmt.TheVariants as stmt
use Rattle.boki_types.specs.declared.expr.Expr.TheVariants as expr
use Rattle.boki_types.specs.declared.expr.BinOp.TheVariants as op
use Rattle.boki_types.specs.declared.turn.Turn.TheVariants as turn

abbrev pub f_lines : List Stmt
f_lines =
    stmt.Write (expr.Text (codes "x")) (expr.Var (codes "a")) ∷
    stmt.Read (codes "v") (expr.Text (codes "x")) ∷
    stmt.Return (expr.Two op.Add (expr.Var (codes "v")) (expr.Int (pos 1))) ∷
    []

abbrev pub f_function : Function
f_function = record { name = codes "f"; params = codes "a" ∷ []; lines = f_lines }

abbrev pub events : List Event
events =
    event.Submit 1 1 0 (Int (pos 4) ∷ []) ∷
    event.Sync ∷
    event.Start 1 (1 ∷ []) 1 ∷
    event.Step 1 ∷
    event.Sync ∷
    event.Step 1 ∷
    event.Step 1 ∷
    event.Step 1 ∷
    event.Sync ∷
    event.Step 1 ∷
    event.Step 1 ∷
    event.Step 1 ∷
    event.Sync ∷
    event.Step 1 ∷
    []

abbrev pub plan : Plan
plan = record {
  setup = record { shards = 1; replicas = 1; engines = 1; mode = R; newer = None };
  objects = [];
  program = record { functions = f_function ∷ [] };
  items = one_by_one events;
}

abbrev pub lines : List Line
lines =
    line.Sent (sent 1 1) ∷
    line.Sync 1 ∷
    line.Started ∷
    line.Step (step.SendInit (sent 1 2)) ∷
    line.Sync 2 ∷
    line.Step (step.AdoptInit (seqnum 2) R) ∷
    line.Step (step.Store (codes "x") (Int (pos 4))) ∷
    line.Step (step.SendWrite (sent 1 3) (codes "x") None) ∷
    line.Sync 3 ∷
    line.Step (step.AdoptWrite (seqnum 3) (codes "x")) ∷
    line.Step (step.Read (codes "x") (Int (pos 4))) ∷
    line.Step (step.SendFinish (sent 1 4) (Good (Int (pos 5)))) ∷
    line.Sync 4 ∷
    line.Step (step.Over (Good (Int (pos 5)))) ∷
    []

abbrev pub report : Report
report = record {
  turns = turn.Submit 1 0 (Int (pos 4) ∷ []) ∷ turn.Go (1 ∷ []) 0 ∷ turn.Go (1 ∷ []) 2 ∷ turn.End (1 ∷ []) ∷ [];
  results = (1 ∷ [], Good (Int (pos 5))) ∷ [];
  objects = (codes "x", Int (pos 4)) ∷ [];
  queues = [];
  stores = [];
}

abbrev pub SmallestRun : Type 0
SmallestRun = Computes plan lines report
