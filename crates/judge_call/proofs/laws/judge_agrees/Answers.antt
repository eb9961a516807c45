use Rattle.judge_call.proofs.Agreeing.{agrees}
use Rattle.judge_call.proofs.laws.judge_agrees.Goals as goal

pub returns : goal.returns
returns c = agrees
