use Rattle.std.proofs.lemmas.Result.{IfOk-weaker}
use Rattle.cluster_events.proofs.Said.{next_said}
use Rattle.cluster_events.proofs.reading.next.Goals as goal

pub returns : goal.returns
returns c =
    IfOk-weaker c.found.result _ _ (λ l is fs setup m valid are. next_said setup fs m c.args.parts.now are c.args.engine c.args.tag c.read_next.result l is c.args.from valid c.read_next.ensures) c.found.ensures
