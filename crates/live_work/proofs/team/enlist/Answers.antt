use Rattle.std.proofs.Common.{◌++◌, ◌∷◌, [], List, ap, ◌∙◌}
use Rattle.live_log.specs.Engines.{Engine}
use Rattle.live_work.specs.declared.worker.LiveWorker.{LiveWorker}
use Rattle.live_work.specs.Teams.{engines_of}
use Rattle.live_work.proofs.Teams.{engines_more}
use Rattle.live_work.proofs.team.enlist.Goals as goal

pub loop-engine-preserved : goal.loop-engine-preserved
loop-engine-preserved g c =
    ap (λ l. engines_of l) c.in_ok-push.ensures.items
    ∙ engines_more c.loop-engine.team.items c.new.result
    ∙ ap (λ (w : LiveWorker g.row.J.Denot g.row.D.Denot). engines_of c.loop-engine.team.items ++ w.engine ∷ []) c.new.ensures
    ∙ ap (λ (l : List Engine). l ++ c.in-Some.engine ∷ []) c.loop-engine.invariant
