-- A record that was sent to end one switch doesn't end the next one early.
-- tools/rows.py makes this file from examples/stale_switch_end.plan and .out.
use Rattle.std.specs.Prelude.{List, [], ◌∷◌, None, codes}
use Rattle.lb_base.specs.declared.value.Value.TheVariants.{Text}
use Rattle.lb_base.specs.declared.value.Mode.TheVariants.{R, W}
use Rattle.boki_types.specs.declared.plan.Plan.{Plan}
use Rattle.boki_types.specs.declared.event.Event.{Event}
use Rattle.boki_types.specs.declared.line.Line.{Line}
use Rattle.boki_types.specs.declared.turn.Report.{Report}
use Rattle.boki_machine.specs.Step.{seqnum}
use Rattle.computed_examples.specs.Computed.{Computes, sent, one_by_one}
use Rattle.computed_examples.specs.Functions.{get_function}
use Rattle.boki_types.specs.declared.event.Event.TheVariants as event
use Rattle.boki_types.specs.declared.line.Line.TheVariants as line
use Rattle.boki_types.specs.declared.line.StepLine.TheVariants as step
use Rattle.boki_types.specs.declared.turn.Turn.TheVariants as turn

abbrev pub events : List Event
events =
    event.Switch 1 W ∷
    event.Sync ∷
    event.EndSwitch 1 ∷
    event.Submit 1 1 0 (Text (codes "x") ∷ []) ∷
    event.Cut ∷
    event.Catch 1 ∷
    event.Start 1 (1 ∷ []) 1 ∷
    event.Step 1 ∷
    event.Cut ∷
    event.Catch 1 ∷
    event.Step 1 ∷
    event.Switch 1 R ∷
    event.EndSwitch 2 ∷
    event.Sync ∷
    event.EndSwitch 1 ∷
    event.EndSwitch 2 ∷
    []

abbrev pub plan : Plan
plan = record {
  setup = record { shards = 1; replicas = 1; engines = 2; mode = R; newer = None };
  objects = [];
  program = record { functions = get_function ∷ [] };
  items = one_by_one events;
}

abbrev pub lines : List Line
lines =
    line.Sent (sent 1 1) ∷
    line.Sync 1 ∷
    line.Sent (sent 1 2) ∷
    line.Sent (sent 1 3) ∷
    line.Cut 2 3 ∷
    line.At 3 ∷
    line.Started ∷
    line.Step (step.SendInit (sent 1 4)) ∷
    line.Cut 3 4 ∷
    line.At 4 ∷
    line.Step (step.AdoptInit (seqnum 4) W) ∷
    line.Sent (sent 1 5) ∷
    line.Sent (sent 1 6) ∷
    line.Sync 6 ∷
    line.Unfinished (1 ∷ []) ∷
    line.Unfinished (1 ∷ []) ∷
    []

abbrev pub report : Report
report = record {
  turns = turn.Submit 1 0 (Text (codes "x") ∷ []) ∷ turn.Go (1 ∷ []) 0 ∷ [];
  results = [];
  objects = [];
  queues = [];
  stores = [];
}

abbrev pub StaleSwitchEndRun : Type 0
StaleSwitchEndRun = Computes plan lines report
