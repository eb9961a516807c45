use Rattle.std.proofs.Common.{◌≡◌, ◌+◌, drop, length}
use Rattle.line_text.specs.Tokens.{span}
use Rattle.line_text.proofs.spans.span_len.Given as goal

abbrev pub invariant-loop-c : goal.invariant-loop-c
invariant-loop-c l =
    (l.n + length (span l.class (drop l.c-index l.text)).0 ≡ length (span l.class l.text).0)
    × (l.n ≡ l.c-index)
