use Rattle.ideal_run.specs.Kept.{maps_of}
use Rattle.ideal_run.proofs.Turning.{ends}
use Rattle.ideal_run.proofs.state.State.end.Goals as goal

pub returns-clause-ok : goal.returns-clause-ok
returns-clause-ok c = λ fs m stands. ends fs m (maps_of c.args.self.now) c.args.path stands c.in_ok-outcome.outcome c.in_ok-outcome.ensures.ok c.set_result.new.invocations.entries c.set_result.ensures
