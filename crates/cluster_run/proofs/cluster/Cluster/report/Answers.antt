use Rattle.cluster_run.specs.Clusters.{ClusterState}
use Rattle.cluster_run.proofs.Whole.{if_report_told}
use Rattle.cluster_run.proofs.cluster.Cluster.report.Goals as goal

pub returns : goal.returns
returns c =
    let kept : ClusterState = record { parts = c.self.inside.parts; attempts = c.self.inside.attempts.entries; marked = c.self.inside.marked } in
    if_report_told kept c.args.self.now c.self.view_is c.holding_is_reported.ensures c.args.plan.now.setup c.args.plan.now.program.functions c.report_of.result c.report_of.ensures
