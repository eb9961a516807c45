use Rattle.std.proofs.Common.{◌≡◌, ◌-◌}
use Rattle.std.specs.Str.{IsUtf8}
use Rattle.line_text.specs.Tokens.{lex_fewer_than, tokens_in}
use Rattle.line_text.proofs.LexLemmas.{behind_tokens}
use Rattle.line_text.proofs.lexing.lex_text.Given as goal

abbrev pub invariant-tokens : goal.invariant-tokens
invariant-tokens l =
    (behind_tokens l.tokens (lex_fewer_than (l.end - l.counter) l.rest) ≡ tokens_in l.text)
    × IsUtf8 l.rest
