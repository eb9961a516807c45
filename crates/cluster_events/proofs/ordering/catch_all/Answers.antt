use Rattle.std.proofs.lemmas.Result.{IfOk-weaker}
use Rattle.cluster_events.proofs.CatchAll.{catches_all}
use Rattle.cluster_events.proofs.ordering.catch_all.Goals as goal

pub returns : goal.returns
returns g c = IfOk-weaker c.catch_all.result _ _ (λ n is. catches_all c.args.parts.now c.catch_all.new.self n is) c.catch_all.ensures.ok
