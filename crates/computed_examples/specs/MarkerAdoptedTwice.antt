-- A marker answers what was written below it, also to an attempt that adopts it after a version at its own seqnum.
-- tools/rows.py makes this file from examples/marker_adopted_twice.plan and .out.
use Rattle.std.specs.Prelude.{pos, List, [], ◌∷◌, None, codes}
use Rattle.lb_base.specs.declared.value.Value.TheVariants.{Int, Text}
use Rattle.lb_base.specs.declared.value.Mode.TheVariants.{W}
use Rattle.lb_base.specs.declared.value.Outcome.TheVariants.{Good}
use Rattle.boki_types.specs.declared.plan.Plan.{Plan}
use Rattle.boki_types.specs.declared.event.Event.{Event}
use Rattle.boki_types.specs.declared.line.Line.{Line}
use Rattle.boki_types.specs.declared.turn.Report.{Report}
use Rattle.boki_types.specs.declared.program.Function.{Function}
use Rattle.boki_types.specs.declared.program.Stmt.{Stmt}
use Rattle.boki_machine.specs.Step.{seqnum}
use Rattle.computed_examples.specs.Computed.{Computes, sent, one_by_one}
use Rattle.boki_types.specs.declared.event.Event.TheVariants as event
use Rattle.boki_types.specs.declared.line.Line.TheVariants as line
use Rattle.boki_types.specs.declared.line.StepLine.TheVariants as step
use Rattle.boki_types.specs.declared.program.Stmt.TheVariants as stmt
use Rattle.boki_types.specs.declared.expr.Expr.TheVariants as expr
use Rattle.boki_types.specs.declared.expr.BinOp.TheVariants as op
use Rattle.boki_types.specs.declared.turn.Turn.TheVariants as turn

abbrev pub raise_lines : List Stmt
raise_lines =
    stmt.Read (codes "v") (expr.Var (codes "k")) ∷
    stmt.Write (expr.Var (codes "k")) (expr.Two op.Add (expr.Var (codes "v")) (expr.Int (pos 1))) ∷
    stmt.Return (expr.Var (codes "v")) ∷
    []

abbrev pub raise_function : Function
raise_function = record { name = codes "raise"; params = codes "k" ∷ []; lines = raise_lines }

abbrev pub events : List Event
events =
    event.Submit 1 1 0 (Text (codes "x") ∷ []) ∷
    event.Sync ∷
    event.Start 1 (1 ∷ []) 1 ∷
    event.Start 2 (1 ∷ []) 1 ∷
    event.Step 1 ∷
    event.Sync ∷
    event.Step 1 ∷
    event.Step 2 ∷
    event.Step 1 ∷
    event.Sync ∷
    event.Step 1 ∷
    event.Step 1 ∷
    event.Step 2 ∷
    event.Step 2 ∷
    event.Step 2 ∷
    event.Sync ∷
    event.Step 1 ∷
    []

abbrev pub plan : Plan
plan = record {
  setup = record { shards = 1; replicas = 1; engines = 1; mode = W; newer = None };
  objects = (codes "x", Int (pos 1)) ∷ [];
  program = record { functions = raise_function ∷ [] };
  items = one_by_one events;
}

abbrev pub lines : List Line
lines =
    line.Sent (sent 1 1) ∷
    line.Sync 1 ∷
    line.Started ∷
    line.Started ∷
    line.Step (step.SendInit (sent 1 2)) ∷
    line.Sync 2 ∷
    line.Step (step.AdoptInit (seqnum 2) W) ∷
    line.Step (step.AdoptInit (seqnum 2) W) ∷
    line.Step (step.SendRead (sent 1 3) (codes "x")) ∷
    line.Sync 3 ∷
    line.Step (step.AdoptRead (seqnum 3) (codes "x") (Int (pos 1))) ∷
    line.Step (step.Put (codes "x") (Int (pos 2)) (seqnum 3) 1) ∷
    line.Step (step.AdoptRead (seqnum 3) (codes "x") (Int (pos 1))) ∷
    line.Step (step.Put (codes "x") (Int (pos 2)) (seqnum 3) 1) ∷
    line.Step (step.SendFinish (sent 1 4) (Good (Int (pos 1)))) ∷
    line.Sync 4 ∷
    line.Step (step.Over (Good (Int (pos 1)))) ∷
    []

abbrev pub report : Report
report = record {
  turns = turn.Submit 1 0 (Text (codes "x") ∷ []) ∷ turn.Go (1 ∷ []) 0 ∷ turn.Go (1 ∷ []) 2 ∷ turn.End (1 ∷ []) ∷ [];
  results = (1 ∷ [], Good (Int (pos 1))) ∷ [];
  objects = (codes "x", Int (pos 2)) ∷ [];
  queues = [];
  stores = [];
}

abbrev pub MarkerAdoptedTwiceRun : Type 0
MarkerAdoptedTwiceRun = Computes plan lines report
