use Rattle.std.proofs.Common.{ℕ, List, sym, subst, refl}
use Rattle.lb_base.specs.declared.value.Value.{Value}
use Rattle.boki_types.specs.declared.body.Body.{Body}
use Rattle.boki_model.specs.Live.{Live}
use Rattle.boki_model.specs.LogLaws.{FallBelow}
use Rattle.boki_model.specs.Writes.{initial_store}
use Rattle.obj_store.specs.StandsFor.{StandsFor, KeysDiffer}
use Rattle.cluster_events.proofs.Opened.{objects_differ, opened_are}
use Rattle.cluster_events.proofs.opening.new_parts.Goals as goal

pub new-requires-2 : goal.new-requires-2
new-requires-2 c = subst KeysDiffer (sym c.as_slice.ensures) (objects_differ c.args.plan.now c.requires)

pub returns : goal.returns
returns c =
    opened_are c.args.plan.now c.requires _ c.in_ok-new.ensures
    (subst (λ (objects : List (List ℕ × Value)). (end : ℕ) (records : List (Live Body)) → FallBelow end records → StandsFor c.in_ok-new-2.field-0 (initial_store objects) records) c.as_slice.ensures c.in_ok-new-2.ensures)
    c.in_ok-new_queues.ensures c.in_ok-new_txns.ensures c.in_ok-new_switches.ensures refl refl
