use Rattle.std.proofs.Common.{◌-◌, ap, subst, refl}
use Rattle.std.specs.Prelude.{slice_set}
use Rattle.hm_switch.specs.SwitchStates.{SwitchState, IsNew}
use Rattle.cluster_events.proofs.Needs.{slot_there}
use Rattle.cluster_events.proofs.Restarted.{restarted_are}
use Rattle.cluster_events.proofs.restarting.restart.Goals as goal

pub returns : goal.returns
returns c setup fs m valid are =
    let old = c.args.parts.now in
    let k = c.args.engine - 1 in
    restarted_are setup fs m old are c.args.engine valid (slot_there setup fs m old are c.args.engine valid) c.clear-3.new.self c.index_mut-3.result.now
    (subst (λ (v : SwitchState). IsNew v.first c.clear-3.new.self) c.index_mut-3.ensures.value c.clear-3.ensures) _ c.restart.ensures refl
    (ap (λ q. slice_set old.queues.items k q) c.clear.ensures) (ap (λ t. slice_set old.txns.items k t) c.clear-2.ensures) refl refl refl
