use Rattle.script_lang.proofs.GrammarReads.{spelled_is_read}
use Rattle.script_lang.proofs.laws.spelled_expression_parses.Goals as goal

pub returns : goal.returns
returns c = spelled_is_read
