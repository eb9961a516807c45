use Rattle.std.proofs.lemmas.Result.{IfOk-weaker}
use Rattle.cluster_events.proofs.Said.{tail_said}
use Rattle.cluster_events.proofs.reading.tail.Goals as goal

pub returns : goal.returns
returns c =
    IfOk-weaker c.found.result _ _ (λ l is fs setup m valid are. tail_said setup fs m c.args.parts.now are c.args.engine c.args.tag c.check_tail.result l is valid c.check_tail.ensures) c.found.ensures
