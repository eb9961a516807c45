use Rattle.call_base.proofs.DueLemmas.{ended_is}
use Rattle.plan_lang.specs.Texts.{plan_of_lines}
use Rattle.check_call.specs.Plans.{printed}
use Rattle.check_call.proofs.check.check_source.Goals as goal

pub returns-in-Err-clause-check : goal.returns-in-Err-clause-check
returns-in-Err-clause-check g c =
    ended_is 1048576 printed plan_of_lines _ (g.S.Source.left c.args.source.now) (g.K.Sink.held c.args.sink.now) (g.K.Sink.held c.read_text.new.sink) c.in-Err.ensures.ended
