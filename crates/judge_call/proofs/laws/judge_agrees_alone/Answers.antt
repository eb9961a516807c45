use Rattle.judge_call.proofs.Agreeing.{agrees_alone}
use Rattle.judge_call.proofs.laws.judge_agrees_alone.Goals as goal

pub returns : goal.returns
returns c = agrees_alone
