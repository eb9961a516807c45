use Rattle.judge_agrees.proofs.Runs.{runs_are_judged}
use Rattle.judge_agrees.proofs.runs_are_judged.Goals as goal

pub returns : goal.returns
returns c = runs_are_judged
