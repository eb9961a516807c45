use Rattle.std.proofs.Common.{arith}
use Rattle.obj_store.proofs.InOrder.{count_at_is}
use Rattle.obj_store.proofs.writes.count_at.Goals as goal

pub returns-then-below-upto-clause-count : goal.returns-then-below-upto-clause-count
returns-then-below-upto-clause-count c = λ up.
    omega (arith, count_at_is c.args.first c.args.writes.now up, c.count_upto-upto.ensures.count up, c.index_of-below.ensures.index up)

pub returns-else-below-upto-clause-count : goal.returns-else-below-upto-clause-count
returns-else-below-upto-clause-count c = λ up.
    omega (arith, count_at_is c.args.first c.args.writes.now up, c.count_upto-upto.ensures.count up, c.index_of-below.ensures.index up)
