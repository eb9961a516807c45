use Rattle.plan_lang.proofs.PlansInLimits.{parsed_plan_is_plan}
use Rattle.plan_lang.proofs.laws.parsed_plan_is_valid.Goals as goal

pub returns : goal.returns
returns c = parsed_plan_is_plan
