use Rattle.cluster_run.proofs.Whole.{if_event_done}
use Rattle.cluster_run.proofs.running.ClusterCluster.event.Goals as goal

pub returns-clause-done : goal.returns-clause-done
returns-clause-done g c =
    if_event_done c.event.result c.args.plan.now.setup c.args.plan.now.program.functions c.args.event.now c.args.self.now c.event.new.self c.event.ensures.done
