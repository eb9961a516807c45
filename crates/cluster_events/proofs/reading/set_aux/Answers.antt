use Rattle.cluster_events.proofs.Said.{set_said}
use Rattle.cluster_events.proofs.reading.set_aux.Goals as goal

pub returns : goal.returns
returns c fs setup m valid are = set_said setup fs m c.args.parts.now are c.args.engine c.args.seq c.args.text.now c.as_bytes.result.now c.in_ok-set.set c.set_aux.new.self c.set_line.result valid c.as_bytes.ensures.value c.as_bytes.ensures.utf8 c.in_ok-set.ensures.ok c.set_line.ensures
