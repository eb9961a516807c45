use Rattle.std.proofs.Common.{◌≡◌, length}
use Rattle.ideal_run.specs.Changes.{maps_before}
use Rattle.ideal_run.proofs.state.State.undo.Given as goal

abbrev pub invariant-loop-change : goal.invariant-loop-change
invariant-loop-change l = maps_before l.self ≡ maps_before l.initial.self

abbrev pub decreases-loop-change : goal.decreases-loop-change
decreases-loop-change l = length l.self.log.items
