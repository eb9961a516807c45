use Rattle.script_lang.proofs.GrammarSpelled.{read_is_spelled}
use Rattle.script_lang.proofs.laws.parsed_expression_is_spelled.Goals as goal

pub returns : goal.returns
returns c = read_is_spelled
