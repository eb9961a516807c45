use Rattle.hm_switch.specs.SwitchStates.{IsNew}
use Rattle.cluster_events.proofs.Opened.{pushed}
use Rattle.cluster_events.proofs.opening.new_switches.Goals as goal

pub loop-preserved : goal.loop-preserved
loop-preserved c = pushed (IsNew c.args.first) c.loop.switches.items c.push.new.self.items c.new.result c.loop.counter c.in_ok-push.ensures.items c.loop.invariant.0 c.loop.invariant.1 c.new.ensures
