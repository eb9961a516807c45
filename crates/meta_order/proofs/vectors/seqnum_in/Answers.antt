use Rattle.std.proofs.Common.{arith}
use Rattle.meta_order.proofs.Searching.{number_step}
use Rattle.meta_order.proofs.vectors.seqnum_in.Goals as goal

pub loop-other-preserved : goal.loop-other-preserved
loop-other-preserved c =
    omega (arith, number_step c.args.shard c.loop-other.other c.args.local c.args.old.now c.args.new.now (omega arith), c.loop-other.invariant)
