-- What the store holds before and after a sweep passes two logged writes.
-- tools/rows.py makes this file from examples/swept_names.plan and .out.
use Rattle.std.specs.Prelude.{pos, List, [], ◌∷◌, None, codes}
use Rattle.lb_base.specs.declared.value.Value.TheVariants.{Int, Text}
use Rattle.lb_base.specs.declared.value.Mode.TheVariants.{R}
use Rattle.lb_base.specs.declared.value.Outcome.TheVariants.{Good}
use Rattle.boki_types.specs.declared.plan.Plan.{Plan}
use Rattle.boki_types.specs.declared.event.Event.{Event}
use Rattle.boki_types.specs.declared.line.Line.{Line}
use Rattle.boki_types.specs.declared.turn.Report.{Report}
use Rattle.boki_machine.specs.Step.{seqnum}
use Rattle.computed_examples.specs.Computed.{Computes, sent, one_by_one}
use Rattle.computed_examples.specs.Functions.{two_function}
use Rattle.boki_types.specs.declared.event.Event.TheVariants as event
use Rattle.boki_types.specs.declared.line.Line.TheVariants as line
use Rattle.boki_types.specs.declared.line.StepLine.TheVariants as step
use Rattle.boki_types.specs.declared.turn.Turn.TheVariants as turn

abbrev pub events : List Event
events =
    event.Submit 1 1 0 (Text (codes "x") ∷ []) ∷
    event.Sync ∷
    event.Start 1 (1 ∷ []) 1 ∷
    event.Step 1 ∷
    event.Sync ∷
    event.Step 1 ∷
    event.Step 1 ∷
    event.Step 1 ∷
    event.Sync ∷
    event.Step 1 ∷
    event.Step 1 ∷
    event.Step 1 ∷
    event.Sync ∷
    event.Step 1 ∷
    event.Sweep 1 ∷
    event.Step 1 ∷
    event.Sync ∷
    event.Trim 1 ∷
    event.Sync ∷
    event.Sweep 1 ∷
    []

abbrev pub plan : Plan
plan = record {
  setup = record { shards = 1; replicas = 1; engines = 1; mode = R; newer = None };
  objects = (codes "y", Int (pos 7)) ∷ [];
  program = record { functions = two_function ∷ [] };
  items = one_by_one events;
}

abbrev pub lines : List Line
lines =
    line.Sent (sent 1 1) ∷
    line.Sync 1 ∷
    line.Started ∷
    line.Step (step.SendInit (sent 1 2)) ∷
    line.Sync 2 ∷
    line.Step (step.AdoptInit (seqnum 2) R) ∷
    line.Step (step.Store (codes "x") (Int (pos 1))) ∷
    line.Step (step.SendWrite (sent 1 3) (codes "x") None) ∷
    line.Sync 3 ∷
    line.Step (step.AdoptWrite (seqnum 3) (codes "x")) ∷
    line.Step (step.Store (codes "x") (Int (pos 2))) ∷
    line.Step (step.SendWrite (sent 1 4) (codes "x") None) ∷
    line.Sync 4 ∷
    line.Step (step.AdoptWrite (seqnum 4) (codes "x")) ∷
    line.Floor (seqnum 0) 3 ∷
    line.Step (step.SendFinish (sent 1 5) (Good (Int (pos 0)))) ∷
    line.Sync 5 ∷
    line.Trimmed (sent 1 6) (seqnum 6) ∷
    line.Sync 6 ∷
    line.Floor (seqnum 6) 2 ∷
    []

abbrev pub report : Report
report = record {
  turns = turn.Submit 1 0 (Text (codes "x") ∷ []) ∷ turn.Go (1 ∷ []) 0 ∷ turn.Go (1 ∷ []) 1 ∷ turn.Go (1 ∷ []) 1 ∷ turn.End (1 ∷ []) ∷ [];
  results = (1 ∷ [], Good (Int (pos 0))) ∷ [];
  objects = (codes "x", Int (pos 2)) ∷ (codes "y", Int (pos 7)) ∷ [];
  queues = [];
  stores = [];
}

abbrev pub SweptNamesRun : Type 0
SweptNamesRun = Computes plan lines report
