-- A switch from mode W to R, where a read answers a version.
-- tools/rows.py makes this file from examples/read_of_a_version.plan and .out.
use Rattle.std.specs.Prelude.{pos, List, [], ◌∷◌, None, codes}
use Rattle.lb_base.specs.declared.value.Value.TheVariants.{Int, Text}
use Rattle.lb_base.specs.declared.value.Mode.TheVariants.{R, W}
use Rattle.lb_base.specs.declared.value.Outcome.TheVariants.{Good}
use Rattle.boki_types.specs.declared.plan.Plan.{Plan}
use Rattle.boki_types.specs.declared.event.Event.{Event}
use Rattle.boki_types.specs.declared.line.Line.{Line}
use Rattle.boki_types.specs.declared.turn.Report.{Report}
use Rattle.boki_machine.specs.Step.{seqnum}
use Rattle.computed_examples.specs.Computed.{Computes, sent, one_by_one}
use Rattle.computed_examples.specs.Functions.{set_function, get_function, move_function, two_function, parent_function, put_function, take_function, bump_function, add_function, spin_function}
use Rattle.boki_types.specs.declared.event.Event.TheVariants as event
use Rattle.boki_types.specs.declared.line.Line.TheVariants as line
use Rattle.boki_types.specs.declared.line.StepLine.TheVariants as step
use Rattle.boki_types.specs.declared.turn.Turn.TheVariants as turn

abbrev pub events : List Event
events =
    event.Submit 1 1 0 (Text (codes "x") ∷ Int (pos 4) ∷ []) ∷
    event.Sync ∷
    event.Start 1 (1 ∷ []) 1 ∷
    event.Step 1 ∷
    event.Sync ∷
    event.Step 1 ∷
    event.Step 1 ∷
    event.Step 1 ∷
    event.Switch 1 R ∷
    event.Sync ∷
    event.EndSwitch 1 ∷
    event.Submit 1 2 1 (Text (codes "x") ∷ []) ∷
    event.Sync ∷
    event.Start 2 (2 ∷ []) 1 ∷
    event.Step 2 ∷
    event.Sync ∷
    event.Step 2 ∷
    event.Step 2 ∷
    event.Step 2 ∷
    event.Sync ∷
    event.Step 2 ∷
    []

abbrev pub plan : Plan
plan = record {
  setup = record { shards = 1; replicas = 1; engines = 1; mode = W; newer = None };
  objects = [];
  program = record { functions = set_function ∷ get_function ∷ move_function ∷ two_function ∷ parent_function ∷ put_function ∷ take_function ∷ bump_function ∷ add_function ∷ spin_function ∷ [] };
  items = one_by_one events;
}

abbrev pub lines : List Line
lines =
    line.Sent (sent 1 1) ∷
    line.Sync 1 ∷
    line.Started ∷
    line.Step (step.SendInit (sent 1 2)) ∷
    line.Sync 2 ∷
    line.Step (step.AdoptInit (seqnum 2) W) ∷
    line.Step (step.Put (codes "x") (Int (pos 4)) (seqnum 2) 1) ∷
    line.Step (step.SendFinish (sent 1 3) (Good (Int (pos 4)))) ∷
    line.Sent (sent 1 4) ∷
    line.Sync 4 ∷
    line.Sent (sent 1 5) ∷
    line.Sent (sent 1 6) ∷
    line.Sync 6 ∷
    line.Started ∷
    line.Step (step.SendInit (sent 1 7)) ∷
    line.Sync 7 ∷
    line.Step (step.AdoptInit (seqnum 7) R) ∷
    line.Step (step.Read (codes "x") (Int (pos 4))) ∷
    line.Step (step.SendFinish (sent 1 8) (Good (Int (pos 4)))) ∷
    line.Sync 8 ∷
    line.Step (step.Over (Good (Int (pos 4)))) ∷
    []

abbrev pub report : Report
report = record {
  turns = turn.Submit 1 0 (Text (codes "x") ∷ Int (pos 4) ∷ []) ∷ turn.Go (1 ∷ []) 1 ∷ turn.End (1 ∷ []) ∷ turn.Submit 2 1 (Text (codes "x") ∷ []) ∷ turn.Go (2 ∷ []) 1 ∷ turn.End (2 ∷ []) ∷ [];
  results = (1 ∷ [], Good (Int (pos 4))) ∷ (2 ∷ [], Good (Int (pos 4))) ∷ [];
  objects = (codes "x", Int (pos 4)) ∷ [];
  queues = [];
  stores = [];
}

abbrev pub ReadOfAVersionRun : Type 0
ReadOfAVersionRun = Computes plan lines report
