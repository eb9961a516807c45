use Rattle.std.proofs.Common.{◌≡◌, length, reverse}
use Rattle.script_lang.specs.Expressions.{read_from, expr_at}
use Rattle.script_lang.proofs.expressions.read_expr.Given as goal

abbrev pub invariant-tokens : goal.invariant-tokens
invariant-tokens l = read_from l.tokens (reverse l.stack.items) l.place ≡ expr_at l.fn.tokens

abbrev pub decreases-tokens : goal.decreases-tokens
decreases-tokens l = length l.tokens
