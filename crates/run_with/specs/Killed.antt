-- The smallest run with the killer: at the fifth step it kills the attempt, which then does nothing more.
use Rattle.std.specs.Prelude.{pos, List, [], ◌∷◌, None, codes}
use Rattle.lb_base.specs.declared.value.Value.TheVariants.{Int}
use Rattle.lb_base.specs.declared.value.Mode.TheVariants.{R}
use Rattle.boki_types.specs.declared.event.Event.TheVariants as event
use Rattle.boki_types.specs.declared.line.Line.TheVariants as line
use Rattle.boki_types.specs.declared.line.StepLine.TheVariants as step
use Rattle.boki_types.specs.declared.turn.Report.{Report}
use Rattle.boki_types.specs.declared.turn.Turn.TheVariants as turn
use Rattle.boki_machine.specs.Step.{seqnum}
use Rattle.computed_examples.specs.Computed.{sent}
use Rattle.computed_examples.specs.Smallest.{plan}
use Rattle.nemesis_types.specs.Kept.{one_kept}
use Rattle.nemesis_types.specs.StandardNemeses.{standard}
use Rattle.run_with.specs.Runs.{Output, Planned, Added}
use Rattle.run_with.specs.Computed.{ComputesWith}

abbrev pub lines : List Output
lines =
    Planned 1 (line.Sent (sent 1 1)) ∷
    Planned 2 (line.Sync 1) ∷
    Planned 3 line.Started ∷
    Planned 4 (line.Step (step.SendInit (sent 1 2))) ∷
    Planned 5 (line.Sync 2) ∷
    Planned 6 (line.Step (step.AdoptInit (seqnum 2) R)) ∷
    Planned 7 (line.Step (step.Store (codes "x") (Int (pos 4)))) ∷
    Planned 8 (line.Step (step.SendWrite (sent 1 3) (codes "x") None)) ∷
    Planned 9 (line.Sync 3) ∷
    Planned 10 (line.Step (step.AdoptWrite (seqnum 3) (codes "x"))) ∷
    Added 10 1 (event.Kill 1) line.Killed ∷
    Planned 11 (line.Step step.Idle) ∷
    Planned 12 (line.Step step.Idle) ∷
    Planned 13 (line.Sync 3) ∷
    Planned 14 (line.Step step.Idle) ∷
    []

abbrev pub report : Report
report = record {
  turns = turn.Submit 1 0 (Int (pos 4) ∷ []) ∷ turn.Go (1 ∷ []) 0 ∷ turn.Go (1 ∷ []) 1 ∷ [];
  results = [];
  objects = (codes "x", Int (pos 4)) ∷ [];
  queues = [];
  stores = [];
}

abbrev pub KilledRun : Type 0
KilledRun = ComputesWith plan (one_kept 1 standard) lines report
