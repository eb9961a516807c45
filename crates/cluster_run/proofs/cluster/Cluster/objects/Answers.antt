use Rattle.cluster_run.specs.Clusters.{ClusterState}
use Rattle.cluster_run.proofs.Whole.{if_objects_told}
use Rattle.cluster_run.proofs.cluster.Cluster.objects.Goals as goal

pub returns : goal.returns
returns c =
    let kept : ClusterState = record { parts = c.self.inside.parts; attempts = c.self.inside.attempts.entries; marked = c.self.inside.marked } in
    if_objects_told kept c.args.self.now c.self.view_is c.holding_is_reported.ensures c.objects.result c.objects.ensures
