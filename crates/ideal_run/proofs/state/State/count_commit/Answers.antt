use Rattle.std.proofs.Common.{refl}
use Rattle.ideal_run.specs.declared.kept.Change.TheVariants as change
use Rattle.ideal_run.specs.Kept.{Maps, maps_of}
use Rattle.ideal_run.proofs.Undoing.{noted}
use Rattle.ideal_run.proofs.state.State.count_commit.Goals as goal

pub returns-clause-undo : goal.returns-clause-undo
returns-clause-undo c =
    let m : Maps = maps_of c.args.self.now in
    noted _ _ (change.Commits c.args.self.now.commits) m (record m { commits = c.in_ok-commits.commits }) c.in_ok-push.ensures.items refl
