use Rattle.line_text.proofs.LexedNames.{lexed_names_valid}
use Rattle.script_lang.proofs.ExprsInLimits.{expr_in_limits}
use Rattle.script_lang.proofs.ExprTextLexes.{expr_text_lexes}
use Rattle.line_text.specs.declared.checked.Checked.TheVariants.{Valid}
use Rattle.script_lang.proofs.laws.printed_expression_lexes_back.Goals as goal

pub returns : goal.returns
returns c = λ text ts behind x lexed read. expr_text_lexes x ((expr_in_limits ts (Valid x, behind) (lexed_names_valid text ts lexed) read).0.fine)
