use Rattle.cluster_events.proofs.Said.{copy_said}
use Rattle.cluster_events.proofs.ordering.copy.Goals as goal

pub returns : goal.returns
returns c fs setup m valid are = copy_said setup fs m c.args.parts.now are c.args.shard c.args.replica c.args.n c.copy.result c.copy.new.self valid c.copy.ensures.count c.copy.ensures.after
