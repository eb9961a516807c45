use Rattle.live_call.proofs.DueLive.{none_read}
use Rattle.live_call.proofs.live.live_top.Goals as goal

pub returns-in_default-clause-live : goal.returns-in_default-clause-live
returns-in_default-clause-live g c is = (λ e. cc, none_read (g.S.Source.left c.args.source.now) (g.K.Sink.held c.args.sink.now))
