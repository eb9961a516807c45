use Rattle.std.proofs.lemmas.Result.{IfOk-weaker}
use Rattle.cluster_events.proofs.Said.{prev_said}
use Rattle.cluster_events.proofs.reading.prev.Goals as goal

pub returns : goal.returns
returns c =
    IfOk-weaker c.found.result _ _ (λ l is fs setup m valid are. prev_said setup fs m c.args.parts.now are c.args.engine c.args.tag c.read_prev.result l is c.args.upto valid c.read_prev.ensures) c.found.ensures
