-- Two attempts of one transfer, of which one is killed between storing its value and logging its write.
-- tools/rows.py makes this file from examples/two_attempts.plan and .out.
use Rattle.std.specs.Prelude.{pos, List, [], ◌∷◌, None, codes}
use Rattle.lb_base.specs.declared.value.Value.TheVariants.{Int, Text}
use Rattle.lb_base.specs.declared.value.Mode.TheVariants.{R}
use Rattle.lb_base.specs.declared.value.Outcome.TheVariants.{Good}
use Rattle.boki_types.specs.declared.plan.Plan.{Plan}
use Rattle.boki_types.specs.declared.event.Event.{Event}
use Rattle.boki_types.specs.declared.line.Line.{Line}
use Rattle.boki_types.specs.declared.turn.Report.{Report}
use Rattle.boki_machine.specs.Step.{seqnum}
use Rattle.computed_examples.specs.Computed.{Computes, sent, one_by_one}
use Rattle.computed_examples.specs.Functions.{set_function, get_function, move_function, two_function, parent_function, put_function, take_function, bump_function, add_function, spin_function}
use Rattle.boki_types.specs.declared.event.Event.TheVariants as event
use Rattle.boki_types.specs.declared.line.Line.TheVariants as line
use Rattle.boki_types.specs.declared.line.StepLine.TheVariants as step
use Rattle.boki_types.specs.declared.turn.Turn.TheVariants as turn

abbrev pub events : List Event
events =
    event.Submit 1 1 2 (Text (codes "a") ∷ Text (codes "b") ∷ Int (pos 3) ∷ []) ∷
    event.Sync ∷
    event.Start 1 (1 ∷ []) 1 ∷
    event.Start 2 (1 ∷ []) 2 ∷
    event.Step 1 ∷
    event.Step 2 ∷
    event.Sync ∷
    event.Step 1 ∷
    event.Step 2 ∷
    event.Step 1 ∷
    event.Step 1 ∷
    event.Step 1 ∷
    event.Kill 1 ∷
    event.Step 1 ∷
    event.Step 2 ∷
    event.Step 2 ∷
    event.Step 2 ∷
    event.Step 2 ∷
    event.Sync ∷
    event.Step 2 ∷
    event.Step 2 ∷
    event.Step 2 ∷
    event.Sync ∷
    event.Step 2 ∷
    event.Step 2 ∷
    event.Sync ∷
    event.Step 2 ∷
    []

abbrev pub plan : Plan
plan = record {
  setup = record { shards = 1; replicas = 1; engines = 2; mode = R; newer = None };
  objects = (codes "a", Int (pos 10)) ∷ (codes "b", Int (pos 0)) ∷ [];
  program = record { functions = set_function ∷ get_function ∷ move_function ∷ two_function ∷ parent_function ∷ put_function ∷ take_function ∷ bump_function ∷ add_function ∷ spin_function ∷ [] };
  items = one_by_one events;
}

abbrev pub lines : List Line
lines =
    line.Sent (sent 1 1) ∷
    line.Sync 1 ∷
    line.Started ∷
    line.Started ∷
    line.Step (step.SendInit (sent 1 2)) ∷
    line.Step (step.SendInit (sent 1 3)) ∷
    line.Sync 3 ∷
    line.Step (step.AdoptInit (seqnum 2) R) ∷
    line.Step (step.AdoptInit (seqnum 2) R) ∷
    line.Step (step.Read (codes "a") (Int (pos 10))) ∷
    line.Step (step.Read (codes "b") (Int (pos 0))) ∷
    line.Step (step.Store (codes "a") (Int (pos 7))) ∷
    line.Killed ∷
    line.Step step.Idle ∷
    line.Step (step.Read (codes "a") (Int (pos 10))) ∷
    line.Step (step.Read (codes "b") (Int (pos 0))) ∷
    line.Step (step.Store (codes "a") (Int (pos 7))) ∷
    line.Step (step.SendWrite (sent 1 4) (codes "a") None) ∷
    line.Sync 4 ∷
    line.Step (step.AdoptWrite (seqnum 4) (codes "a")) ∷
    line.Step (step.Store (codes "b") (Int (pos 3))) ∷
    line.Step (step.SendWrite (sent 1 5) (codes "b") None) ∷
    line.Sync 5 ∷
    line.Step (step.AdoptWrite (seqnum 5) (codes "b")) ∷
    line.Step (step.SendFinish (sent 1 6) (Good (Int (pos 7)))) ∷
    line.Sync 6 ∷
    line.Step (step.Over (Good (Int (pos 7)))) ∷
    []

abbrev pub report : Report
report = record {
  turns = turn.Submit 1 2 (Text (codes "a") ∷ Text (codes "b") ∷ Int (pos 3) ∷ []) ∷ turn.Go (1 ∷ []) 2 ∷ turn.Go (1 ∷ []) 1 ∷ turn.Go (1 ∷ []) 1 ∷ turn.End (1 ∷ []) ∷ [];
  results = (1 ∷ [], Good (Int (pos 7))) ∷ [];
  objects = (codes "a", Int (pos 7)) ∷ (codes "b", Int (pos 3)) ∷ [];
  queues = [];
  stores = [];
}

abbrev pub TwoAttemptsRun : Type 0
TwoAttemptsRun = Computes plan lines report
