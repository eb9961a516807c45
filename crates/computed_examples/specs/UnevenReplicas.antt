-- Replicas that lag: a cut orders what each replica has, and the shards in ascending number.
-- tools/rows.py makes this file from examples/uneven_replicas.plan and .out.
use Rattle.std.specs.Prelude.{List, [], ◌∷◌, None, codes}
use Rattle.lb_base.specs.declared.value.Mode.TheVariants.{R}
use Rattle.boki_types.specs.declared.plan.Plan.{Plan}
use Rattle.boki_types.specs.declared.event.Event.{Event}
use Rattle.boki_types.specs.declared.line.Line.{Line}
use Rattle.boki_types.specs.declared.turn.Report.{Report}
use Rattle.boki_machine.specs.Step.{seqnum}
use Rattle.computed_examples.specs.Computed.{Computes, sent, tag, one_by_one}
use Rattle.computed_examples.specs.Functions.{set_function, get_function, move_function, two_function, parent_function, put_function, take_function, bump_function, add_function, spin_function}
use Rattle.boki_types.specs.declared.event.Event.TheVariants as event
use Rattle.boki_types.specs.declared.line.Line.TheVariants as line

abbrev pub events : List Event
events =
    event.Append 1 (tag 7 ∷ []) (codes "a") ∷
    event.Append 2 (tag 7 ∷ []) (codes "b") ∷
    event.Append 1 (tag 7 ∷ []) (codes "c") ∷
    event.Copy 2 2 5 ∷
    event.Cut ∷
    event.Copy 1 2 1 ∷
    event.Append 2 (tag 7 ∷ []) (codes "d") ∷
    event.Copy 2 2 1 ∷
    event.Copy 1 2 1 ∷
    event.Cut ∷
    event.Cut ∷
    event.Next 1 (tag 7) (seqnum 1) ∷
    event.Catch 1 ∷
    event.Next 1 (tag 7) (seqnum 1) ∷
    event.Next 1 (tag 7) (seqnum 2) ∷
    event.Prev 1 (tag 7) (seqnum 9) ∷
    event.Tail 1 (tag 7) ∷
    event.Settled 1 1 2 ∷
    event.Settled 2 1 2 ∷
    []

abbrev pub plan : Plan
plan = record {
  setup = record { shards = 2; replicas = 2; engines = 2; mode = R; newer = None };
  objects = [];
  program = record { functions = set_function ∷ get_function ∷ move_function ∷ two_function ∷ parent_function ∷ put_function ∷ take_function ∷ bump_function ∷ add_function ∷ spin_function ∷ [] };
  items = one_by_one events;
}

abbrev pub lines : List Line
lines =
    line.Sent (sent 1 1) ∷
    line.Sent (sent 2 1) ∷
    line.Sent (sent 1 2) ∷
    line.Copied 1 ∷
    line.Cut 1 1 ∷
    line.Copied 1 ∷
    line.Sent (sent 2 2) ∷
    line.Copied 1 ∷
    line.Copied 1 ∷
    line.Cut 2 4 ∷
    line.Same ∷
    line.Absent ∷
    line.At 4 ∷
    line.Found (seqnum 1) (codes "b") ∷
    line.Found (seqnum 2) (codes "a") ∷
    line.Found (seqnum 4) (codes "d") ∷
    line.Found (seqnum 4) (codes "d") ∷
    line.Placed (seqnum 3) ∷
    line.Waits ∷
    []

abbrev pub report : Report
report = record {
  turns = [];
  results = [];
  objects = [];
  queues = [];
  stores = [];
}

abbrev pub UnevenReplicasRun : Type 0
UnevenReplicasRun = Computes plan lines report
