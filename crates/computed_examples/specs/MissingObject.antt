-- A missing object reads as none, and a sum with none traps.
-- tools/rows.py makes this file from examples/missing_object.plan and .out.
use Rattle.std.specs.Prelude.{pos, List, [], ◌∷◌, None, codes}
use Rattle.lb_base.specs.declared.value.Value.TheVariants.{Text, Nothing}
use Rattle.lb_base.specs.declared.value.Mode.TheVariants.{R}
use Rattle.lb_base.specs.declared.value.Outcome.TheVariants.{Trap}
use Rattle.boki_types.specs.declared.plan.Plan.{Plan}
use Rattle.boki_types.specs.declared.event.Event.{Event}
use Rattle.boki_types.specs.declared.line.Line.{Line}
use Rattle.boki_types.specs.declared.turn.Report.{Report}
use Rattle.boki_types.specs.declared.program.Function.{Function}
use Rattle.boki_types.specs.declared.program.Stmt.{Stmt}
use Rattle.boki_machine.specs.Step.{seqnum}
use Rattle.computed_examples.specs.Computed.{Computes, sent, one_by_one}
use Rattle.boki_types.specs.declared.event.Event.TheVariants as event
use Rattle.boki_types.specs.declared.line.Line.TheVariants as line
use Rattle.boki_types.specs.declared.line.StepLine.TheVariants as step
use Rattle.boki_types.specs.declared.program.Stmt.TheVariants as stmt
use Rattle.boki_types.specs.declared.expr.Expr.TheVariants as expr
use Rattle.boki_types.specs.declared.expr.BinOp.TheVariants as op
use Rattle.boki_types.specs.declared.turn.Turn.TheVariants as turn
use Rattle.lb_base.specs.declared.value.TrapKind.TheVariants as trap

abbrev pub h_lines : List Stmt
h_lines =
    stmt.Read (codes "v") (expr.Var (codes "k")) ∷
    stmt.Return (expr.Two op.Add (expr.Var (codes "v")) (expr.Int (pos 1))) ∷
    []

abbrev pub h_function : Function
h_function = record { name = codes "h"; params = codes "k" ∷ []; lines = h_lines }

abbrev pub events : List Event
events =
    event.Submit 1 1 0 (Text (codes "x") ∷ []) ∷
    event.Sync ∷
    event.Start 1 (1 ∷ []) 1 ∷
    event.Step 1 ∷
    event.Sync ∷
    event.Step 1 ∷
    event.Step 1 ∷
    event.Step 1 ∷
    event.Sync ∷
    event.Step 1 ∷
    []

abbrev pub plan : Plan
plan = record {
  setup = record { shards = 1; replicas = 1; engines = 1; mode = R; newer = None };
  objects = [];
  program = record { functions = h_function ∷ [] };
  items = one_by_one events;
}

abbrev pub lines : List Line
lines =
    line.Sent (sent 1 1) ∷
    line.Sync 1 ∷
    line.Started ∷
    line.Step (step.SendInit (sent 1 2)) ∷
    line.Sync 2 ∷
    line.Step (step.AdoptInit (seqnum 2) R) ∷
    line.Step (step.Read (codes "x") Nothing) ∷
    line.Step (step.SendFinish (sent 1 3) (Trap trap.Kind)) ∷
    line.Sync 3 ∷
    line.Step (step.Over (Trap trap.Kind)) ∷
    []

abbrev pub report : Report
report = record {
  turns = turn.Submit 1 0 (Text (codes "x") ∷ []) ∷ turn.Go (1 ∷ []) 1 ∷ turn.End (1 ∷ []) ∷ [];
  results = (1 ∷ [], Trap trap.Kind) ∷ [];
  objects = [];
  queues = [];
  stores = [];
}

abbrev pub MissingObjectRun : Type 0
MissingObjectRun = Computes plan lines report
