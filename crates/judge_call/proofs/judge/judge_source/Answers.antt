use Rattle.judge_call.proofs.Ended.{ended_judged}
use Rattle.judge_call.proofs.judge.judge_source.Goals as goal

pub returns-in-Err-clause-judge : goal.returns-in-Err-clause-judge
returns-in-Err-clause-judge g c =
    ended_judged _ (g.S.Source.left c.args.source.now) (g.K.Sink.held c.args.sink.now) (g.K.Sink.held c.read_text.new.sink) c.in-Err.ensures.ended
