-- In mode W a write that a later read has fenced is stored and logged.
-- tools/rows.py makes this file from examples/late_write.plan and .out.
use Rattle.std.specs.Prelude.{pos, List, [], ◌∷◌, None, codes}
use Rattle.lb_base.specs.declared.value.Value.TheVariants.{Int, Text}
use Rattle.lb_base.specs.declared.value.Mode.TheVariants.{W}
use Rattle.lb_base.specs.declared.value.Outcome.TheVariants.{Good}
use Rattle.boki_types.specs.declared.plan.Plan.{Plan}
use Rattle.boki_types.specs.declared.event.Event.{Event}
use Rattle.boki_types.specs.declared.line.Line.{Line}
use Rattle.boki_types.specs.declared.turn.Report.{Report}
use Rattle.boki_machine.specs.Step.{seqnum}
use Rattle.computed_examples.specs.Computed.{Computes, sent, one_by_one}
use Rattle.computed_examples.specs.Functions.{set_function, get_function, move_function, two_function, parent_function, put_function, take_function, bump_function, add_function, spin_function}
use Rattle.boki_types.specs.declared.event.Event.TheVariants as event
use Rattle.boki_types.specs.declared.line.Line.TheVariants as line
use Rattle.boki_types.specs.declared.line.StepLine.TheVariants as step
use Rattle.boki_types.specs.declared.turn.Turn.TheVariants as turn

abbrev pub events : List Event
events =
    event.Submit 1 1 0 (Text (codes "x") ∷ Int (pos 9) ∷ []) ∷
    event.Submit 1 2 1 (Text (codes "x") ∷ []) ∷
    event.Sync ∷
    event.Start 1 (1 ∷ []) 1 ∷
    event.Start 2 (2 ∷ []) 1 ∷
    event.Step 1 ∷
    event.Step 2 ∷
    event.Sync ∷
    event.Step 1 ∷
    event.Step 2 ∷
    event.Step 2 ∷
    event.Sync ∷
    event.Step 2 ∷
    event.Step 1 ∷
    event.Step 1 ∷
    event.Step 1 ∷
    event.Step 2 ∷
    event.Sync ∷
    event.Step 1 ∷
    event.Step 1 ∷
    event.Step 2 ∷
    event.Sync ∷
    event.Step 1 ∷
    []

abbrev pub plan : Plan
plan = record {
  setup = record { shards = 1; replicas = 1; engines = 1; mode = W; newer = None };
  objects = (codes "x", Int (pos 5)) ∷ [];
  program = record { functions = set_function ∷ get_function ∷ move_function ∷ two_function ∷ parent_function ∷ put_function ∷ take_function ∷ bump_function ∷ add_function ∷ spin_function ∷ [] };
  items = one_by_one events;
}

abbrev pub lines : List Line
lines =
    line.Sent (sent 1 1) ∷
    line.Sent (sent 1 2) ∷
    line.Sync 2 ∷
    line.Started ∷
    line.Started ∷
    line.Step (step.SendInit (sent 1 3)) ∷
    line.Step (step.SendInit (sent 1 4)) ∷
    line.Sync 4 ∷
    line.Step (step.AdoptInit (seqnum 3) W) ∷
    line.Step (step.AdoptInit (seqnum 4) W) ∷
    line.Step (step.SendRead (sent 1 5) (codes "x")) ∷
    line.Sync 5 ∷
    line.Step (step.AdoptRead (seqnum 5) (codes "x") (Int (pos 5))) ∷
    line.Step (step.Late (codes "x")) ∷
    line.Step (step.Store (codes "x") (Int (pos 9))) ∷
    line.Step (step.SendWrite (sent 1 6) (codes "x") None) ∷
    line.Step (step.SendFinish (sent 1 7) (Good (Int (pos 5)))) ∷
    line.Sync 7 ∷
    line.Step (step.AdoptWrite (seqnum 6) (codes "x")) ∷
    line.Step (step.SendFinish (sent 1 8) (Good (Int (pos 9)))) ∷
    line.Step (step.Over (Good (Int (pos 5)))) ∷
    line.Sync 8 ∷
    line.Step (step.Over (Good (Int (pos 9)))) ∷
    []

abbrev pub report : Report
report = record {
  turns = turn.Submit 1 0 (Text (codes "x") ∷ Int (pos 9) ∷ []) ∷ turn.Submit 2 1 (Text (codes "x") ∷ []) ∷ turn.Go (1 ∷ []) 0 ∷ turn.Go (2 ∷ []) 0 ∷ turn.Go (2 ∷ []) 1 ∷ turn.Go (1 ∷ []) 1 ∷ turn.End (2 ∷ []) ∷ turn.End (1 ∷ []) ∷ [];
  results = (1 ∷ [], Good (Int (pos 9))) ∷ (2 ∷ [], Good (Int (pos 5))) ∷ [];
  objects = (codes "x", Int (pos 9)) ∷ [];
  queues = [];
  stores = [];
}

abbrev pub LateWriteRun : Type 0
LateWriteRun = Computes plan lines report
