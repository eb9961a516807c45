-- A read of two objects at one record, which fences both.
-- tools/rows.py makes this file from examples/read_group.plan and .out.
use Rattle.std.specs.Prelude.{pos, List, [], ◌∷◌, None, codes}
use Rattle.lb_base.specs.declared.value.Value.TheVariants.{Int, Text}
use Rattle.lb_base.specs.declared.value.Mode.TheVariants.{W}
use Rattle.lb_base.specs.declared.value.Outcome.TheVariants.{Good}
use Rattle.boki_types.specs.declared.plan.Plan.{Plan}
use Rattle.boki_types.specs.declared.event.Event.{Event}
use Rattle.boki_types.specs.declared.line.Line.{Line}
use Rattle.boki_types.specs.declared.turn.Report.{Report}
use Rattle.boki_types.specs.declared.program.Function.{Function}
use Rattle.boki_types.specs.declared.program.Stmt.{Stmt}
use Rattle.boki_machine.specs.Step.{seqnum}
use Rattle.computed_examples.specs.Computed.{Computes, sent, one_by_one}
use Rattle.computed_examples.specs.Functions.{set_function, get_function, move_function, two_function, parent_function, put_function, take_function, bump_function, add_function, spin_function}
use Rattle.boki_types.specs.declared.event.Event.TheVariants as event
use Rattle.boki_types.specs.declared.line.Line.TheVariants as line
use Rattle.boki_types.specs.declared.line.StepLine.TheVariants as step
use Rattle.boki_types.specs.declared.program.Stmt.TheVariants as stmt
use Rattle.boki_types.specs.declared.expr.Expr.TheVariants as expr
use Rattle.boki_types.specs.declared.expr.BinOp.TheVariants as op
use Rattle.boki_types.specs.declared.turn.Turn.TheVariants as turn

abbrev pub both_lines : List Stmt
both_lines =
    stmt.ReadAll ((codes "x", expr.Var (codes "a")) ∷ (codes "y", expr.Var (codes "b")) ∷ []) ∷
    stmt.Return (expr.Two op.Add (expr.Var (codes "x")) (expr.Var (codes "y"))) ∷
    []

abbrev pub both_function : Function
both_function = record { name = codes "both"; params = codes "a" ∷ codes "b" ∷ []; lines = both_lines }

abbrev pub events : List Event
events =
    event.Submit 1 1 10 (Text (codes "a") ∷ Text (codes "b") ∷ []) ∷
    event.Submit 1 2 0 (Text (codes "b") ∷ Int (pos 9) ∷ []) ∷
    event.Sync ∷
    event.Start 1 (1 ∷ []) 1 ∷
    event.Start 2 (2 ∷ []) 1 ∷
    event.Step 1 ∷
    event.Step 2 ∷
    event.Sync ∷
    event.Step 1 ∷
    event.Step 2 ∷
    event.Step 1 ∷
    event.Sync ∷
    event.Step 1 ∷
    event.Step 2 ∷
    event.Step 2 ∷
    event.Step 2 ∷
    event.Step 1 ∷
    event.Sync ∷
    event.Step 2 ∷
    event.Step 1 ∷
    []

abbrev pub plan : Plan
plan = record {
  setup = record { shards = 1; replicas = 1; engines = 1; mode = W; newer = None };
  objects = (codes "a", Int (pos 1)) ∷ (codes "b", Int (pos 2)) ∷ [];
  program = record { functions = set_function ∷ get_function ∷ move_function ∷ two_function ∷ parent_function ∷ put_function ∷ take_function ∷ bump_function ∷ add_function ∷ spin_function ∷ both_function ∷ [] };
  items = one_by_one events;
}

abbrev pub lines : List Line
lines =
    line.Sent (sent 1 1) ∷
    line.Sent (sent 1 2) ∷
    line.Sync 2 ∷
    line.Started ∷
    line.Started ∷
    line.Step (step.SendInit (sent 1 3)) ∷
    line.Step (step.SendInit (sent 1 4)) ∷
    line.Sync 4 ∷
    line.Step (step.AdoptInit (seqnum 3) W) ∷
    line.Step (step.AdoptInit (seqnum 4) W) ∷
    line.Step (step.SendReadAll (sent 1 5) (codes "a" ∷ codes "b" ∷ [])) ∷
    line.Sync 5 ∷
    line.Step (step.AdoptReadAll (seqnum 5) ((codes "a", Int (pos 1)) ∷ (codes "b", Int (pos 2)) ∷ [])) ∷
    line.Step (step.Late (codes "b")) ∷
    line.Step (step.Store (codes "b") (Int (pos 9))) ∷
    line.Step (step.SendWrite (sent 1 6) (codes "b") None) ∷
    line.Step (step.SendFinish (sent 1 7) (Good (Int (pos 3)))) ∷
    line.Sync 7 ∷
    line.Step (step.AdoptWrite (seqnum 6) (codes "b")) ∷
    line.Step (step.Over (Good (Int (pos 3)))) ∷
    []

abbrev pub report : Report
report = record {
  turns = turn.Submit 1 10 (Text (codes "a") ∷ Text (codes "b") ∷ []) ∷ turn.Submit 2 0 (Text (codes "b") ∷ Int (pos 9) ∷ []) ∷ turn.Go (1 ∷ []) 0 ∷ turn.Go (2 ∷ []) 0 ∷ turn.Go (1 ∷ []) 1 ∷ turn.Go (2 ∷ []) 1 ∷ turn.End (1 ∷ []) ∷ [];
  results = (1 ∷ [], Good (Int (pos 3))) ∷ [];
  objects = (codes "a", Int (pos 1)) ∷ (codes "b", Int (pos 9)) ∷ [];
  queues = [];
  stores = [];
}

abbrev pub ReadGroupRun : Type 0
ReadGroupRun = Computes plan lines report
