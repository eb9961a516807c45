use Rattle.plan_lang.proofs.PlansParseBack.{plan_parses_back}
use Rattle.plan_lang.proofs.laws.printed_plan_parses_back.Goals as goal

pub returns : goal.returns
returns c = plan_parses_back
