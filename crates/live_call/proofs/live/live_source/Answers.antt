use Rattle.live_call.proofs.DueLive.{ended_live}
use Rattle.live_call.proofs.live.live_source.Goals as goal

pub returns-in-Err-clause-live : goal.returns-in-Err-clause-live
returns-in-Err-clause-live g c =
    ended_live _ (g.S.Source.left c.args.source.now) (g.K.Sink.held c.args.sink.now) (g.K.Sink.held c.read_text.new.sink) c.in-Err.ensures.ended
