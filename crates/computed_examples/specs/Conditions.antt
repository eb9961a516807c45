-- Conditions, for which dead records count nothing, and trimmed tags.
-- tools/rows.py makes this file from examples/conditions.plan and .out.
use Rattle.std.specs.Prelude.{List, [], ◌∷◌, None, codes}
use Rattle.lb_base.specs.declared.value.Mode.TheVariants.{R}
use Rattle.boki_types.specs.declared.plan.Plan.{Plan}
use Rattle.boki_types.specs.declared.event.Event.{Event}
use Rattle.boki_types.specs.declared.line.Line.{Line}
use Rattle.boki_types.specs.declared.turn.Report.{Report}
use Rattle.boki_machine.specs.Step.{seqnum}
use Rattle.computed_examples.specs.Computed.{Computes, sent, tag, one_by_one}
use Rattle.computed_examples.specs.Functions.{set_function, get_function, move_function, two_function, parent_function, put_function, take_function, bump_function, add_function, spin_function}
use Rattle.boki_types.specs.declared.event.Event.TheVariants as event
use Rattle.boki_types.specs.declared.line.Line.TheVariants as line

abbrev pub events : List Event
events =
    event.Cond 1 0 (tag 7 ∷ []) (codes "a") ∷
    event.Cond 1 0 (tag 7 ∷ []) (codes "b") ∷
    event.Cond 1 2 (tag 7 ∷ []) (codes "c") ∷
    event.Cond 1 1 (tag 7 ∷ tag 8 ∷ []) (codes "d") ∷
    event.Sync ∷
    event.Settled 1 1 1 ∷
    event.Settled 1 1 2 ∷
    event.Settled 1 1 3 ∷
    event.Settled 1 1 4 ∷
    event.Next 1 (tag 7) (seqnum 2) ∷
    event.TrimTag 1 (tag 7) (seqnum 1) ∷
    event.Next 1 (tag 7) (seqnum 1) ∷
    event.Sync ∷
    event.Next 1 (tag 7) (seqnum 1) ∷
    event.Prev 1 (tag 7) (seqnum 3) ∷
    event.Tail 1 (tag 8) ∷
    event.Cond 1 2 (tag 7 ∷ []) (codes "e") ∷
    event.Sync ∷
    event.Settled 1 1 6 ∷
    []

abbrev pub plan : Plan
plan = record {
  setup = record { shards = 1; replicas = 1; engines = 1; mode = R; newer = None };
  objects = [];
  program = record { functions = set_function ∷ get_function ∷ move_function ∷ two_function ∷ parent_function ∷ put_function ∷ take_function ∷ bump_function ∷ add_function ∷ spin_function ∷ [] };
  items = one_by_one events;
}

abbrev pub lines : List Line
lines =
    line.Sent (sent 1 1) ∷
    line.Sent (sent 1 2) ∷
    line.Sent (sent 1 3) ∷
    line.Sent (sent 1 4) ∷
    line.Sync 4 ∷
    line.Placed (seqnum 1) ∷
    line.Taken (seqnum 2) ∷
    line.Taken (seqnum 3) ∷
    line.Placed (seqnum 4) ∷
    line.Found (seqnum 4) (codes "d") ∷
    line.Sent (sent 1 5) ∷
    line.Found (seqnum 1) (codes "a") ∷
    line.Sync 5 ∷
    line.Found (seqnum 4) (codes "d") ∷
    line.Absent ∷
    line.Found (seqnum 4) (codes "d") ∷
    line.Sent (sent 1 6) ∷
    line.Sync 6 ∷
    line.Placed (seqnum 6) ∷
    []

abbrev pub report : Report
report = record {
  turns = [];
  results = [];
  objects = [];
  queues = [];
  stores = [];
}

abbrev pub ConditionsRun : Type 0
ConditionsRun = Computes plan lines report
