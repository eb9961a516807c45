use Rattle.std.proofs.Common.{◌≡◌, reverse, vec_len}
use Rattle.script_lang.specs.Expressions.{reduce}
use Rattle.script_lang.proofs.stack.reduce_stack.Given as goal

abbrev pub invariant-items : goal.invariant-items
invariant-items l = reduce l.precedence (reverse l.stack.items) l.read ≡ reduce l.precedence (reverse l.fn.stack.items) l.fn.read

abbrev pub decreases-items : goal.decreases-items
decreases-items l = vec_len l.stack
