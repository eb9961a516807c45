use Rattle.std.proofs.Common.{false, sym, subst}
use Rattle.cluster_run.specs.Clusters.{ClusterState, IsOfPlan, DoesEvent}
use Rattle.cluster_run.proofs.Whole.{sound_by_plan, does_event, still_of_plan}
use Rattle.cluster_run.proofs.cluster.Cluster.event.Goals as goal

pub invariant_of-self-2 : goal.invariant_of-self-2
invariant_of-self-2 g c =
    let old : ClusterState = record { parts = c.self.inside.parts; attempts = c.self.inside.attempts.entries; marked = c.self.inside.marked } in
    let new : ClusterState = record { parts = c.apply.new.parts; attempts = c.apply.new.attempts.entries; marked = false } in
    let of : IsOfPlan c.args.plan.now old = subst (IsOfPlan c.args.plan.now) (sym c.self.view_is) c.requires.plan in
    sound_by_plan c.args.plan.now new
    (still_of_plan c.args.plan.now c.args.event.now old c.requires.valid new c.in_ok-line.line c.in_ok-line.ensures of c.if-self.false)

pub returns-clause-done : goal.returns-clause-done
returns-clause-done g c =
    let plan = c.args.plan.now in
    let old : ClusterState = record { parts = c.self.inside.parts; attempts = c.self.inside.attempts.entries; marked = c.self.inside.marked } in
    let new : ClusterState = record { parts = c.apply.new.parts; attempts = c.apply.new.attempts.entries; marked = false } in
    subst (λ (o : ClusterState). DoesEvent plan.setup plan.program.functions c.args.event.now o new c.in_ok-line.line) c.self.view_is
    (does_event plan c.args.event.now old c.requires.valid new c.in_ok-line.line c.in_ok-line.ensures)

pub returns-clause-plan : goal.returns-clause-plan
returns-clause-plan g c =
    let old : ClusterState = record { parts = c.self.inside.parts; attempts = c.self.inside.attempts.entries; marked = c.self.inside.marked } in
    let new : ClusterState = record { parts = c.apply.new.parts; attempts = c.apply.new.attempts.entries; marked = false } in
    let of : IsOfPlan c.args.plan.now old = subst (IsOfPlan c.args.plan.now) (sym c.self.view_is) c.requires.plan in
    still_of_plan c.args.plan.now c.args.event.now old c.requires.valid new c.in_ok-line.line c.in_ok-line.ensures of c.if-self.false
