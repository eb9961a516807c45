-- Two pushes and a pop, which answers the value that was pushed first.
-- tools/rows.py makes this file from examples/queue_in_order.plan and .out.
use Rattle.std.specs.Prelude.{pos, List, [], ◌∷◌, None, codes}
use Rattle.lb_base.specs.declared.value.Value.TheVariants.{Int, Text}
use Rattle.lb_base.specs.declared.value.Mode.TheVariants.{R}
use Rattle.lb_base.specs.declared.value.Outcome.TheVariants.{Good}
use Rattle.boki_types.specs.declared.plan.Plan.{Plan}
use Rattle.boki_types.specs.declared.event.Event.{Event}
use Rattle.boki_types.specs.declared.line.Line.{Line}
use Rattle.boki_types.specs.declared.turn.Report.{Report}
use Rattle.boki_machine.specs.Step.{seqnum}
use Rattle.computed_examples.specs.Computed.{Computes, sent, one_by_one}
use Rattle.computed_examples.specs.Functions.{put_function, take_function}
use Rattle.boki_types.specs.declared.event.Event.TheVariants as event
use Rattle.boki_types.specs.declared.line.Line.TheVariants as line
use Rattle.boki_types.specs.declared.line.StepLine.TheVariants as step
use Rattle.boki_types.specs.declared.turn.Turn.TheVariants as turn

abbrev pub events : List Event
events =
    event.Submit 1 1 0 (Text (codes "q") ∷ Int (pos 1) ∷ []) ∷
    event.Submit 1 2 0 (Text (codes "q") ∷ Int (pos 2) ∷ []) ∷
    event.Submit 1 3 1 (Text (codes "q") ∷ []) ∷
    event.Sync ∷
    event.Start 1 (1 ∷ []) 1 ∷
    event.Start 2 (2 ∷ []) 1 ∷
    event.Start 3 (3 ∷ []) 1 ∷
    event.Step 1 ∷
    event.Step 2 ∷
    event.Step 3 ∷
    event.Sync ∷
    event.Step 1 ∷
    event.Step 2 ∷
    event.Step 3 ∷
    event.Step 1 ∷
    event.Step 2 ∷
    event.Step 3 ∷
    event.Sync ∷
    event.Step 3 ∷
    event.Step 3 ∷
    event.Sync ∷
    event.Step 3 ∷
    []

abbrev pub plan : Plan
plan = record {
  setup = record { shards = 1; replicas = 1; engines = 1; mode = R; newer = None };
  objects = [];
  program = record { functions = put_function ∷ take_function ∷ [] };
  items = one_by_one events;
}

abbrev pub lines : List Line
lines =
    line.Sent (sent 1 1) ∷
    line.Sent (sent 1 2) ∷
    line.Sent (sent 1 3) ∷
    line.Sync 3 ∷
    line.Started ∷
    line.Started ∷
    line.Started ∷
    line.Step (step.SendInit (sent 1 4)) ∷
    line.Step (step.SendInit (sent 1 5)) ∷
    line.Step (step.SendInit (sent 1 6)) ∷
    line.Sync 6 ∷
    line.Step (step.AdoptInit (seqnum 4) R) ∷
    line.Step (step.AdoptInit (seqnum 5) R) ∷
    line.Step (step.AdoptInit (seqnum 6) R) ∷
    line.Step (step.SendPush (sent 1 7) (codes "q") (Int (pos 1))) ∷
    line.Step (step.SendPush (sent 1 8) (codes "q") (Int (pos 2))) ∷
    line.Step (step.SendPop (sent 1 9) (codes "q")) ∷
    line.Sync 9 ∷
    line.Step (step.AdoptPop (seqnum 9) (codes "q") (Int (pos 1))) ∷
    line.Step (step.SendFinish (sent 1 10) (Good (Int (pos 1)))) ∷
    line.Sync 10 ∷
    line.Step (step.Over (Good (Int (pos 1)))) ∷
    []

abbrev pub report : Report
report = record {
  turns = turn.Submit 1 0 (Text (codes "q") ∷ Int (pos 1) ∷ []) ∷ turn.Submit 2 0 (Text (codes "q") ∷ Int (pos 2) ∷ []) ∷ turn.Submit 3 1 (Text (codes "q") ∷ []) ∷ turn.Go (1 ∷ []) 0 ∷ turn.Go (2 ∷ []) 0 ∷ turn.Go (3 ∷ []) 0 ∷ turn.Go (1 ∷ []) 1 ∷ turn.Go (2 ∷ []) 1 ∷ turn.Go (3 ∷ []) 1 ∷ turn.End (3 ∷ []) ∷ [];
  results = (3 ∷ [], Good (Int (pos 1))) ∷ [];
  objects = [];
  queues = (codes "q", Int (pos 2) ∷ []) ∷ [];
  stores = [];
}

abbrev pub QueueInOrderRun : Type 0
QueueInOrderRun = Computes plan lines report
