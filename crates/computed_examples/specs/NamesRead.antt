-- A commit fails where another wrote a name that its transaction only read.
-- tools/rows.py makes this file from examples/names_read.plan and .out.
use Rattle.std.specs.Prelude.{pos, List, [], ◌∷◌, None, true, false, codes}
use Rattle.lb_base.specs.declared.value.Value.TheVariants.{Int, Text, Nothing}
use Rattle.lb_base.specs.declared.value.Mode.TheVariants.{R}
use Rattle.lb_base.specs.declared.value.Outcome.TheVariants.{Good}
use Rattle.boki_types.specs.declared.plan.Plan.{Plan}
use Rattle.boki_types.specs.declared.event.Event.{Event}
use Rattle.boki_types.specs.declared.line.Line.{Line}
use Rattle.boki_types.specs.declared.turn.Report.{Report}
use Rattle.boki_types.specs.declared.program.Function.{Function}
use Rattle.boki_types.specs.declared.program.Stmt.{Stmt}
use Rattle.boki_machine.specs.Step.{seqnum}
use Rattle.computed_examples.specs.Computed.{Computes, sent, one_by_one}
use Rattle.boki_types.specs.declared.event.Event.TheVariants as event
use Rattle.boki_types.specs.declared.line.Line.TheVariants as line
use Rattle.boki_types.specs.declared.line.StepLine.TheVariants as step
use Rattle.boki_types.specs.declared.program.Stmt.TheVariants as stmt
use Rattle.boki_types.specs.declared.expr.Expr.TheVariants as expr
use Rattle.boki_types.specs.declared.turn.Turn.TheVariants as turn

abbrev pub copy_lines : List Stmt
copy_lines =
    stmt.Begin ((codes "v", expr.Var (codes "a")) ∷ []) ∷
    stmt.Commit (codes "ok") ((expr.Var (codes "b"), expr.Var (codes "v")) ∷ []) ∷
    stmt.Return (expr.Var (codes "ok")) ∷
    []

abbrev pub copy_function : Function
copy_function = record { name = codes "copy"; params = codes "a" ∷ codes "b" ∷ []; lines = copy_lines }

abbrev pub keep_lines : List Stmt
keep_lines =
    stmt.Begin ((codes "w", expr.Var (codes "n")) ∷ []) ∷
    stmt.Commit (codes "ok") ((expr.Var (codes "n"), expr.Var (codes "v")) ∷ []) ∷
    stmt.Return (expr.Var (codes "ok")) ∷
    []

abbrev pub keep_function : Function
keep_function = record { name = codes "keep"; params = codes "n" ∷ codes "v" ∷ []; lines = keep_lines }

abbrev pub events : List Event
events =
    event.Submit 1 1 0 (Text (codes "a") ∷ Text (codes "b") ∷ []) ∷
    event.Submit 1 2 1 (Text (codes "a") ∷ Int (pos 7) ∷ []) ∷
    event.Sync ∷
    event.Start 1 (1 ∷ []) 1 ∷
    event.Start 2 (2 ∷ []) 1 ∷
    event.Step 1 ∷
    event.Step 2 ∷
    event.Sync ∷
    event.Step 1 ∷
    event.Step 2 ∷
    event.Step 1 ∷
    event.Step 2 ∷
    event.Sync ∷
    event.Step 1 ∷
    event.Step 2 ∷
    event.Step 2 ∷
    event.Sync ∷
    event.Step 1 ∷
    event.Step 2 ∷
    event.Sync ∷
    event.Step 1 ∷
    event.Step 1 ∷
    event.Sync ∷
    event.Step 1 ∷
    []

abbrev pub plan : Plan
plan = record {
  setup = record { shards = 1; replicas = 1; engines = 1; mode = R; newer = None };
  objects = [];
  program = record { functions = copy_function ∷ keep_function ∷ [] };
  items = one_by_one events;
}

abbrev pub lines : List Line
lines =
    line.Sent (sent 1 1) ∷
    line.Sent (sent 1 2) ∷
    line.Sync 2 ∷
    line.Started ∷
    line.Started ∷
    line.Step (step.SendInit (sent 1 3)) ∷
    line.Step (step.SendInit (sent 1 4)) ∷
    line.Sync 4 ∷
    line.Step (step.AdoptInit (seqnum 3) R) ∷
    line.Step (step.AdoptInit (seqnum 4) R) ∷
    line.Step (step.SendBegin (sent 1 5) (codes "a" ∷ [])) ∷
    line.Step (step.SendBegin (sent 1 6) (codes "a" ∷ [])) ∷
    line.Sync 6 ∷
    line.Step (step.AdoptBegin (seqnum 5) ((codes "a", Nothing) ∷ [])) ∷
    line.Step (step.AdoptBegin (seqnum 6) ((codes "a", Nothing) ∷ [])) ∷
    line.Step (step.SendCommit (sent 1 7) ((codes "a", Int (pos 7)) ∷ [])) ∷
    line.Sync 7 ∷
    line.Step (step.SendCommit (sent 1 8) ((codes "b", Nothing) ∷ [])) ∷
    line.Step (step.AdoptCommit (seqnum 7) true) ∷
    line.Sync 8 ∷
    line.Step (step.AdoptCommit (seqnum 8) false) ∷
    line.Step (step.SendFinish (sent 1 9) (Good (Int (pos 0)))) ∷
    line.Sync 9 ∷
    line.Step (step.Over (Good (Int (pos 0)))) ∷
    []

abbrev pub report : Report
report = record {
  turns = turn.Submit 1 0 (Text (codes "a") ∷ Text (codes "b") ∷ []) ∷ turn.Submit 2 1 (Text (codes "a") ∷ Int (pos 7) ∷ []) ∷ turn.Go (1 ∷ []) 0 ∷ turn.Go (2 ∷ []) 0 ∷ turn.Go (1 ∷ []) 1 ∷ turn.Go (2 ∷ []) 1 ∷ turn.Go (2 ∷ []) 1 ∷ turn.Go (1 ∷ []) 1 ∷ turn.End (1 ∷ []) ∷ [];
  results = (1 ∷ [], Good (Int (pos 0))) ∷ [];
  objects = [];
  queues = [];
  stores = (codes "a", Int (pos 7)) ∷ [];
}

abbrev pub NamesReadRun : Type 0
NamesReadRun = Computes plan lines report
