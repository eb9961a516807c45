use Rattle.plan_lang.proofs.TurnsParseBack.{printed_turn}
use Rattle.plan_lang.proofs.laws.printed_turn_parses_back.Goals as goal

pub returns : goal.returns
returns c = printed_turn
