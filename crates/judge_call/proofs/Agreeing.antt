-- What a run printed is judged to its report.
use Rattle.judge_agrees.proofs.Judging.{plans_are_judged}
use Rattle.judge_agrees.proofs.Runs.{runs_are_judged}
use Rattle.judge_call.specs.Laws.{JudgeAgrees, JudgeAgreesAlone}

pub agrees : JudgeAgrees
agrees text plan kept e given few within = (runs_are_judged text plan kept e given few within).due

pub agrees_alone : JudgeAgreesAlone
agrees_alone text plan e within = (plans_are_judged text plan e within).due
