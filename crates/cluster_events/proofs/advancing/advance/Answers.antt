use Rattle.std.proofs.Common.{refl}
use Rattle.std.proofs.lemmas.Result.{on_ok_weaker}
use Rattle.cluster_events.proofs.Advanced.{advanced}
use Rattle.cluster_events.proofs.advancing.advance.Goals as goal

pub returns : goal.returns
returns c =
    on_ok_weaker c.advance.result
    (λ current. advanced c.args.parts.now c.args.engine c.requires.engine c.requires.parts c.index_mut-view.result.now c.advance.new.self c.index_mut-view.ensures.value c.advance.ensures.first current _ refl refl refl refl refl refl refl)
    c.advance.ensures.ok
