use Rattle.live_call.proofs.DueLive.{no_text}
use Rattle.live_call.proofs.live.run_text.Goals as goal

pub returns-in-Err-Memory-clause-meets : goal.returns-in-Err-Memory-clause-meets
returns-in-Err-Memory-clause-meets g c = no_text c.args.text.now (g.K.Sink.held c.args.sink.now)
