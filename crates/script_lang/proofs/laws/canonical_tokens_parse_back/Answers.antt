use Rattle.script_lang.proofs.ExprTokensParseBack.{expr_parses_back}
use Rattle.script_lang.proofs.laws.canonical_tokens_parse_back.Goals as goal

pub returns : goal.returns
returns c = expr_parses_back
