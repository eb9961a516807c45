use Rattle.std.proofs.Common.{ℕ, List, subst}
use Rattle.call_base.specs.declared.status.Status.TheVariants.{Done}
use Rattle.call_base.specs.Due.{Meets, due}
use Rattle.live_call.proofs.DueLive.{no_output, written}
use Rattle.live_call.proofs.live.write_live.Goals as goal

pub returns-in-Ok-clause-meets : goal.returns-in-Ok-clause-meets
returns-in-Ok-clause-meets g c =
    let old = g.K.Sink.held c.args.sink.now in
    let new = g.K.Sink.held c.write_whole.new.sink in
    written c.args.text.now c.in-Ok.output c.write_whole.result old new c.in-Ok.ensures
    (subst (λ (b : List ℕ). Meets c.write_whole.result (due Done b) old new) c.as_bytes.ensures.value c.write_whole.ensures.meets)

pub returns-in-Err-clause-meets : goal.returns-in-Err-clause-meets
returns-in-Err-clause-meets g c = no_output c.args.text.now (g.K.Sink.held c.args.sink.now)
