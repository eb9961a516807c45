-- Two transactions on one name: the second commit fails.
-- tools/rows.py makes this file from examples/two_transactions.plan and .out.
use Rattle.std.specs.Prelude.{pos, List, [], ◌∷◌, None, true, false, codes}
use Rattle.lb_base.specs.declared.value.Value.TheVariants.{Int, Text, Nothing}
use Rattle.lb_base.specs.declared.value.Mode.TheVariants.{R}
use Rattle.lb_base.specs.declared.value.Outcome.TheVariants.{Good}
use Rattle.boki_types.specs.declared.plan.Plan.{Plan}
use Rattle.boki_types.specs.declared.event.Event.{Event}
use Rattle.boki_types.specs.declared.line.Line.{Line}
use Rattle.boki_types.specs.declared.turn.Report.{Report}
use Rattle.boki_machine.specs.Step.{seqnum}
use Rattle.computed_examples.specs.Computed.{Computes, sent, one_by_one}
use Rattle.computed_examples.specs.Functions.{set_function, get_function, move_function, two_function, parent_function, put_function, take_function, bump_function, add_function, spin_function}
use Rattle.boki_types.specs.declared.event.Event.TheVariants as event
use Rattle.boki_types.specs.declared.line.Line.TheVariants as line
use Rattle.boki_types.specs.declared.line.StepLine.TheVariants as step
use Rattle.boki_types.specs.declared.turn.Turn.TheVariants as turn

abbrev pub events : List Event
events =
    event.Submit 1 1 7 (Text (codes "n") ∷ []) ∷
    event.Submit 1 2 7 (Text (codes "n") ∷ []) ∷
    event.Sync ∷
    event.Start 1 (1 ∷ []) 1 ∷
    event.Start 2 (2 ∷ []) 1 ∷
    event.Step 1 ∷
    event.Step 2 ∷
    event.Sync ∷
    event.Step 1 ∷
    event.Step 2 ∷
    event.Step 1 ∷
    event.Step 2 ∷
    event.Sync ∷
    event.Step 1 ∷
    event.Step 2 ∷
    event.Step 1 ∷
    event.Step 2 ∷
    event.Sync ∷
    event.Step 1 ∷
    event.Step 2 ∷
    event.Step 1 ∷
    event.Step 2 ∷
    event.Sync ∷
    event.Step 1 ∷
    event.Step 2 ∷
    []

abbrev pub plan : Plan
plan = record {
  setup = record { shards = 1; replicas = 1; engines = 1; mode = R; newer = None };
  objects = [];
  program = record { functions = set_function ∷ get_function ∷ move_function ∷ two_function ∷ parent_function ∷ put_function ∷ take_function ∷ bump_function ∷ add_function ∷ spin_function ∷ [] };
  items = one_by_one events;
}

abbrev pub lines : List Line
lines =
    line.Sent (sent 1 1) ∷
    line.Sent (sent 1 2) ∷
    line.Sync 2 ∷
    line.Started ∷
    line.Started ∷
    line.Step (step.SendInit (sent 1 3)) ∷
    line.Step (step.SendInit (sent 1 4)) ∷
    line.Sync 4 ∷
    line.Step (step.AdoptInit (seqnum 3) R) ∷
    line.Step (step.AdoptInit (seqnum 4) R) ∷
    line.Step (step.SendBegin (sent 1 5) (codes "n" ∷ [])) ∷
    line.Step (step.SendBegin (sent 1 6) (codes "n" ∷ [])) ∷
    line.Sync 6 ∷
    line.Step (step.AdoptBegin (seqnum 5) ((codes "n", Nothing) ∷ [])) ∷
    line.Step (step.AdoptBegin (seqnum 6) ((codes "n", Nothing) ∷ [])) ∷
    line.Step (step.SendCommit (sent 1 7) ((codes "n", Int (pos 1)) ∷ [])) ∷
    line.Step (step.SendCommit (sent 1 8) ((codes "n", Int (pos 1)) ∷ [])) ∷
    line.Sync 8 ∷
    line.Step (step.AdoptCommit (seqnum 7) true) ∷
    line.Step (step.AdoptCommit (seqnum 8) false) ∷
    line.Step (step.SendFinish (sent 1 9) (Good (Int (pos 1)))) ∷
    line.Step (step.SendFinish (sent 1 10) (Good (Int (pos 0)))) ∷
    line.Sync 10 ∷
    line.Step (step.Over (Good (Int (pos 1)))) ∷
    line.Step (step.Over (Good (Int (pos 0)))) ∷
    []

abbrev pub report : Report
report = record {
  turns = turn.Submit 1 7 (Text (codes "n") ∷ []) ∷ turn.Submit 2 7 (Text (codes "n") ∷ []) ∷ turn.Go (1 ∷ []) 0 ∷ turn.Go (2 ∷ []) 0 ∷ turn.Go (1 ∷ []) 1 ∷ turn.Go (2 ∷ []) 1 ∷ turn.Go (1 ∷ []) 1 ∷ turn.Go (2 ∷ []) 1 ∷ turn.End (1 ∷ []) ∷ turn.End (2 ∷ []) ∷ [];
  results = (1 ∷ [], Good (Int (pos 1))) ∷ (2 ∷ [], Good (Int (pos 0))) ∷ [];
  objects = [];
  queues = [];
  stores = (codes "n", Int (pos 1)) ∷ [];
}

abbrev pub TwoTransactionsRun : Type 0
TwoTransactionsRun = Computes plan lines report
