use Rattle.std.proofs.Common.{List, sym, ap, ◌∙◌}
use Rattle.ideal_run.specs.declared.kept.Change.{Change}
use Rattle.ideal_run.specs.Kept.{maps_of}
use Rattle.ideal_run.specs.Changes.{undone}
use Rattle.ideal_run.proofs.Undoing.{noted}
use Rattle.ideal_run.proofs.state.State.undo.Goals as goal

pub loop-change-preserved : goal.loop-change-preserved
loop-change-preserved c =
    ap (λ (l : List Change). undone l (maps_of c.revert.new.self)) c.revert.ensures.log
    ∙ sym (noted c.pop.new.self.items c.loop-change.self.log.items c.in-Some.change (maps_of c.revert.new.self) (maps_of c.loop-change.self) c.in-Some.ensures.items (sym c.revert.ensures.maps))
    ∙ c.loop-change.invariant
