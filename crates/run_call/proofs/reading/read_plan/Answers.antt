use Rattle.run_call.proofs.Ended.{ended_plan}
use Rattle.run_call.proofs.reading.read_plan.Goals as goal

pub returns-in-Err-clause-ended : goal.returns-in-Err-clause-ended
returns-in-Err-clause-ended g c =
    ended_plan _ (g.S.Source.left c.args.source.now) (g.K.Sink.held c.args.sink.now) (g.K.Sink.held c.read_text.new.sink) c.in-Err.ensures.ended
