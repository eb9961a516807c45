use Rattle.cluster_events.proofs.Said.{settled_said}
use Rattle.cluster_events.proofs.reading.settled.Goals as goal

pub returns : goal.returns
returns c fs setup m valid are = settled_said setup fs m c.args.parts.now are c.args.engine c.args.shard c.args.local c.settled.result c.settle_line.result valid c.settled.ensures c.settle_line.ensures
