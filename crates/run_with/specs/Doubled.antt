-- A run with the doubler: a second attempt goes beside the first one, and what it sends is dead.
use Rattle.std.specs.Prelude.{pos, List, [], ◌∷◌, None, codes}
use Rattle.lb_base.specs.declared.value.Value.TheVariants.{Int, Text}
use Rattle.lb_base.specs.declared.value.Mode.TheVariants.{R}
use Rattle.lb_base.specs.declared.value.Outcome.TheVariants.{Good}
use Rattle.boki_types.specs.declared.event.Event.{Event}
use Rattle.boki_types.specs.declared.event.Event.TheVariants as event
use Rattle.boki_types.specs.declared.line.Line.TheVariants as line
use Rattle.boki_types.specs.declared.line.StepLine.TheVariants as step
use Rattle.boki_types.specs.declared.plan.Plan.{Plan}
use Rattle.boki_types.specs.declared.turn.Report.{Report}
use Rattle.boki_types.specs.declared.turn.Turn.TheVariants as turn
use Rattle.computed_examples.specs.Functions.{set_function}
use Rattle.boki_machine.specs.Step.{seqnum}
use Rattle.computed_examples.specs.Computed.{sent, one_by_one}
use Rattle.nemesis_types.specs.Kept.{one_kept}
use Rattle.nemesis_types.specs.StandardNemeses.{standard}
use Rattle.run_with.specs.Runs.{Output, Planned, Added}
use Rattle.run_with.specs.Computed.{ComputesWith}

abbrev pub events : List Event
events =
    event.Submit 1 1 0 (Text (codes "x") ∷ Int (pos 1) ∷ []) ∷
    event.Sync ∷
    event.Start 1 (1 ∷ []) 1 ∷
    event.Step 1 ∷
    event.Sync ∷
    event.Step 1 ∷
    event.Step 1 ∷
    event.Step 1 ∷
    event.Sync ∷
    event.Step 1 ∷
    event.Step 1 ∷
    event.Sync ∷
    event.Step 1 ∷
    []

abbrev pub plan : Plan
plan = record {
  setup = record { shards = 1; replicas = 1; engines = 1; mode = R; newer = None };
  objects = [];
  program = record { functions = set_function ∷ [] };
  items = one_by_one events;
}

abbrev pub lines : List Output
lines =
    Planned 1 (line.Sent (sent 1 1)) ∷
    Planned 2 (line.Sync 1) ∷
    Planned 3 line.Started ∷
    Added 3 2 (event.Start 2049 (1 ∷ []) 1) line.Started ∷
    Planned 4 (line.Step (step.SendInit (sent 1 2))) ∷
    Added 4 2 (event.Step 2049) (line.Step (step.SendInit (sent 1 3))) ∷
    Planned 5 (line.Sync 3) ∷
    Planned 6 (line.Step (step.AdoptInit (seqnum 2) R)) ∷
    Added 6 2 (event.Step 2049) (line.Step (step.AdoptInit (seqnum 2) R)) ∷
    Planned 7 (line.Step (step.Store (codes "x") (Int (pos 1)))) ∷
    Added 7 2 (event.Step 2049) (line.Step (step.Store (codes "x") (Int (pos 1)))) ∷
    Planned 8 (line.Step (step.SendWrite (sent 1 4) (codes "x") None)) ∷
    Added 8 2 (event.Step 2049) (line.Step (step.SendWrite (sent 1 5) (codes "x") None)) ∷
    Planned 9 (line.Sync 5) ∷
    Planned 10 (line.Step (step.AdoptWrite (seqnum 4) (codes "x"))) ∷
    Added 10 2 (event.Step 2049) (line.Step (step.AdoptWrite (seqnum 4) (codes "x"))) ∷
    Planned 11 (line.Step (step.SendFinish (sent 1 6) (Good (Int (pos 1))))) ∷
    Added 11 2 (event.Step 2049) (line.Step (step.SendFinish (sent 1 7) (Good (Int (pos 1))))) ∷
    Planned 12 (line.Sync 7) ∷
    Planned 13 (line.Step (step.Over (Good (Int (pos 1))))) ∷
    Added 13 2 (event.Step 2049) (line.Step (step.Over (Good (Int (pos 1))))) ∷
    []

abbrev pub report : Report
report = record {
  turns = turn.Submit 1 0 (Text (codes "x") ∷ Int (pos 1) ∷ []) ∷ turn.Go (1 ∷ []) 0 ∷ turn.Go (1 ∷ []) 1 ∷ turn.End (1 ∷ []) ∷ [];
  results = (1 ∷ [], Good (Int (pos 1))) ∷ [];
  objects = (codes "x", Int (pos 1)) ∷ [];
  queues = [];
  stores = [];
}

abbrev pub DoubledRun : Type 0
DoubledRun = ComputesWith plan (one_kept 2 standard) lines report
