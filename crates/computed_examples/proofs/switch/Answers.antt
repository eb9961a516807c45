-- It comes out by computation.
use Rattle.std.proofs.Common.{refl}
use Rattle.boki_types.specs.declared.expr.Expr.TheBlock.{hidden-the_row-Expr-0}
use denote.Hole.Carrier.{hidden}
use Rattle.computed_examples.proofs.switch.Goals as goal

pub returns : goal.returns
unfolding hidden-the_row-Expr-0 hidden
returns c = record { valid = refl; lines = refl; report = refl; executed = refl; each_attempt = refl }
