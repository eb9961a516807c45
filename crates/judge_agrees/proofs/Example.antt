-- The definition computes.
use Rattle.std.proofs.Common.{refl}
use lib.Utf8.{encode}
use Rattle.std.specs.Fmt.{digits}
use Rattle.std.specs.Str.{chars, is_utf8}
use Rattle.lb_base.specs.Quoted.{rest_of_quoted}
use Rattle.line_text.specs.Tokens.{keyword_of, word_token, double_symbol, single_symbol}
use Rattle.judge_agrees.specs.Example.{ExampleJudged}

pub example_judged : ExampleJudged
unfolding encode digits chars is_utf8 rest_of_quoted keyword_of word_token double_symbol single_symbol
example_judged = record { reported = refl; refused = refl }
