-- They come out by computation.
use Rattle.std.proofs.Common.{refl}
use Rattle.boki_types.specs.declared.expr.Expr.TheBlock.{hidden-the_row-Expr-0}
use denote.Hole.Carrier.{hidden}
use Rattle.computed_examples.proofs.by_hand.illegal_turns.Goals as goal

pub returns : goal.returns
unfolding hidden-the_row-Expr-0 hidden
returns c = record { known = refl; unknown = refl; too_many = refl; too_early = refl; too_late = refl; joined_too_early = refl }
