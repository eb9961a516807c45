use Rattle.plan_lang.proofs.TurnsParseBack.{parsed_turn_is_turn}
use Rattle.plan_lang.proofs.laws.parsed_turn_is_valid.Goals as goal

pub returns : goal.returns
returns c = parsed_turn_is_turn
