use Rattle.std.proofs.Common.{false, refl}
use Rattle.cluster_run.specs.Clusters.{ClusterState}
use Rattle.cluster_run.proofs.Whole.{opened, opened_sound}
use Rattle.cluster_run.proofs.cluster.Cluster.new.Goals as goal

pub invariant_of-result : goal.invariant_of-result
invariant_of-result c =
    let made : ClusterState = record { parts = c.in_ok-new_parts.field-0; attempts = c.new.result.entries; marked = false } in
    opened_sound c.args.plan.now made (opened c.args.plan.now made refl c.new.ensures.empty c.in_ok-new_parts.ensures)

pub returns : goal.returns
returns c =
    let made : ClusterState = record { parts = c.in_ok-new_parts.field-0; attempts = c.new.result.entries; marked = false } in
    opened c.args.plan.now made refl c.new.ensures.empty c.in_ok-new_parts.ensures
