use Rattle.std.proofs.Common.{false, refl, subst}
use Rattle.cluster_run.specs.Clusters.{ClusterState, CatchesAllUp}
use Rattle.cluster_run.proofs.Whole.{all_caught, caught_is_sound}
use Rattle.cluster_run.proofs.cluster.Cluster.catch_all.Goals as goal

pub invariant_of-self-2 : goal.invariant_of-self-2
invariant_of-self-2 g c =
    let old : ClusterState = record { parts = c.self.inside.parts; attempts = c.self.inside.attempts.entries; marked = c.self.inside.marked } in
    let new : ClusterState = record { parts = c.catch_all.new.parts; attempts = c.self.inside.attempts.entries; marked = false } in
    caught_is_sound old new refl c.in_ok-length.length c.in_ok-length.ensures (c.self.invariant c.if-self.false)

pub returns-clause-done : goal.returns-clause-done
returns-clause-done g c =
    let old : ClusterState = record { parts = c.self.inside.parts; attempts = c.self.inside.attempts.entries; marked = c.self.inside.marked } in
    let new : ClusterState = record { parts = c.catch_all.new.parts; attempts = c.self.inside.attempts.entries; marked = false } in
    subst (λ (o : ClusterState). CatchesAllUp o new c.in_ok-length.length) c.self.view_is
    (all_caught old new refl c.in_ok-length.length c.in_ok-length.ensures)
