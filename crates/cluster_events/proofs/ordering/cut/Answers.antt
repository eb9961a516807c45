use Rattle.cluster_events.proofs.Said.{cut_said}
use Rattle.cluster_events.proofs.ordering.cut.Goals as goal

pub returns : goal.returns
returns c fs setup m valid are = cut_said setup fs m c.args.parts.now are c.cut.new.self c.in_ok-cut.cut c.length.result c.cut_line.result c.in_ok-cut.ensures.ok c.length.ensures c.cut_line.ensures
