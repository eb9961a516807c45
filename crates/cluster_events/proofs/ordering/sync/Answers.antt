use Rattle.cluster_events.proofs.Said.{sync_said}
use Rattle.cluster_events.proofs.ordering.sync.Goals as goal

pub returns : goal.returns
returns g c fs setup m valid are = sync_said setup fs m c.args.parts.now are c.cut.new.self c.catch_all.new.self c.in_ok-_cut._cut c.in_ok-catch_all.field-0 c.in_ok-_cut.ensures.ok c.in_ok-catch_all.ensures.ok
