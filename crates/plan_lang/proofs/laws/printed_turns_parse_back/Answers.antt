use Rattle.plan_lang.proofs.TurnTextsParseBack.{printed_turns}
use Rattle.plan_lang.proofs.laws.printed_turns_parse_back.Goals as goal

pub returns : goal.returns
returns c = printed_turns
