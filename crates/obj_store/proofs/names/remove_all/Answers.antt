use Rattle.std.proofs.Common.{arith}
use Rattle.obj_store.proofs.Passing.{removed_more}
use Rattle.obj_store.proofs.names.remove_all.Goals as goal

pub loop-write-preserved : goal.loop-write-preserved
loop-write-preserved c = record {
  finds = removed_more c.args.settled.now c.loop-write.write-index c.write-item.result _ _ _ (omega arith) c.write-item.is c.loop-write.invariant.finds c.remove.ensures.finds;
  distinct = λ d. c.remove.ensures.distinct;
  len = omega (arith, c.loop-write.invariant.len, c.remove.ensures.len);
}
