use Rattle.cluster_events.proofs.Said.{catch_said}
use Rattle.cluster_events.proofs.ordering.catch.Goals as goal

pub returns : goal.returns
returns c fs setup m valid are = catch_said setup fs m c.args.parts.now are c.args.engine c.in_ok-catch_up.field-0 c.catch_up.new.self valid c.in_ok-catch_up.ensures.ok
