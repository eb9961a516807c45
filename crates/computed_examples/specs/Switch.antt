-- A switch from mode R to W waits for an invocation that began before it; between them the mode is T.
-- tools/rows.py makes this file from examples/switch.plan and .out.
use Rattle.std.specs.Prelude.{pos, List, [], ◌∷◌, None, codes}
use Rattle.lb_base.specs.declared.value.Value.TheVariants.{Int, Text, Nothing}
use Rattle.lb_base.specs.declared.value.Mode.TheVariants.{R, W, T}
use Rattle.lb_base.specs.declared.value.Outcome.TheVariants.{Good}
use Rattle.boki_types.specs.declared.plan.Plan.{Plan}
use Rattle.boki_types.specs.declared.event.Event.{Event}
use Rattle.boki_types.specs.declared.line.Line.{Line}
use Rattle.boki_types.specs.declared.turn.Report.{Report}
use Rattle.boki_machine.specs.Step.{seqnum}
use Rattle.computed_examples.specs.Computed.{Computes, sent, one_by_one}
use Rattle.computed_examples.specs.Functions.{set_function, get_function, move_function, two_function, parent_function, put_function, take_function, bump_function, add_function, spin_function}
use Rattle.boki_types.specs.declared.event.Event.TheVariants as event
use Rattle.boki_types.specs.declared.line.Line.TheVariants as line
use Rattle.boki_types.specs.declared.line.StepLine.TheVariants as step
use Rattle.boki_types.specs.declared.turn.Turn.TheVariants as turn

abbrev pub events : List Event
events =
    event.Submit 1 1 1 (Text (codes "x") ∷ []) ∷
    event.Sync ∷
    event.Start 1 (1 ∷ []) 1 ∷
    event.Step 1 ∷
    event.Sync ∷
    event.Step 1 ∷
    event.Switch 1 W ∷
    event.EndSwitch 1 ∷
    event.Sync ∷
    event.EndSwitch 1 ∷
    event.Submit 1 2 0 (Text (codes "x") ∷ Int (pos 4) ∷ []) ∷
    event.Sync ∷
    event.Start 2 (2 ∷ []) 1 ∷
    event.Step 2 ∷
    event.Sync ∷
    event.Step 2 ∷
    event.Step 1 ∷
    event.Step 1 ∷
    event.Sync ∷
    event.EndSwitch 1 ∷
    event.Sync ∷
    event.Step 2 ∷
    event.Step 2 ∷
    event.Sync ∷
    event.Step 2 ∷
    event.Submit 1 3 1 (Text (codes "x") ∷ []) ∷
    event.Sync ∷
    event.Start 3 (3 ∷ []) 1 ∷
    event.Step 3 ∷
    event.Sync ∷
    event.Step 3 ∷
    []

abbrev pub plan : Plan
plan = record {
  setup = record { shards = 1; replicas = 1; engines = 1; mode = R; newer = None };
  objects = [];
  program = record { functions = set_function ∷ get_function ∷ move_function ∷ two_function ∷ parent_function ∷ put_function ∷ take_function ∷ bump_function ∷ add_function ∷ spin_function ∷ [] };
  items = one_by_one events;
}

abbrev pub lines : List Line
lines =
    line.Sent (sent 1 1) ∷
    line.Sync 1 ∷
    line.Started ∷
    line.Step (step.SendInit (sent 1 2)) ∷
    line.Sync 2 ∷
    line.Step (step.AdoptInit (seqnum 2) R) ∷
    line.Sent (sent 1 3) ∷
    line.Absent ∷
    line.Sync 3 ∷
    line.Unfinished (1 ∷ []) ∷
    line.Sent (sent 1 4) ∷
    line.Sync 4 ∷
    line.Started ∷
    line.Step (step.SendInit (sent 1 5)) ∷
    line.Sync 5 ∷
    line.Step (step.AdoptInit (seqnum 5) T) ∷
    line.Step (step.Read (codes "x") Nothing) ∷
    line.Step (step.SendFinish (sent 1 6) (Good Nothing)) ∷
    line.Sync 6 ∷
    line.Sent (sent 1 7) ∷
    line.Sync 7 ∷
    line.Step (step.Store (codes "x") (Int (pos 4))) ∷
    line.Step (step.SendWrite (sent 1 8) (codes "x") None) ∷
    line.Sync 8 ∷
    line.Step (step.AdoptWrite (seqnum 8) (codes "x")) ∷
    line.Sent (sent 1 9) ∷
    line.Sync 9 ∷
    line.Started ∷
    line.Step (step.SendInit (sent 1 10)) ∷
    line.Sync 10 ∷
    line.Step (step.AdoptInit (seqnum 10) W) ∷
    []

abbrev pub report : Report
report = record {
  turns = turn.Submit 1 1 (Text (codes "x") ∷ []) ∷ turn.Go (1 ∷ []) 1 ∷ turn.Submit 2 0 (Text (codes "x") ∷ Int (pos 4) ∷ []) ∷ turn.Go (2 ∷ []) 0 ∷ turn.End (1 ∷ []) ∷ turn.Go (2 ∷ []) 1 ∷ turn.Submit 3 1 (Text (codes "x") ∷ []) ∷ turn.Go (3 ∷ []) 0 ∷ [];
  results = (1 ∷ [], Good Nothing) ∷ [];
  objects = (codes "x", Int (pos 4)) ∷ [];
  queues = [];
  stores = [];
}

abbrev pub SwitchRun : Type 0
SwitchRun = Computes plan lines report
