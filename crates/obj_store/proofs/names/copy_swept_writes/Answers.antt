use Rattle.std.proofs.Common.{arith}
use Rattle.obj_store.proofs.Passing.{passed_of_more}
use Rattle.obj_store.proofs.names.copy_swept_writes.Goals as goal

pub loop-write-preserved : goal.loop-write-preserved
loop-write-preserved c = passed_of_more c.args.names.now.entries c.args.settled.now c.loop-write.write-index c.write-item.result _ _ _ (omega arith) c.write-item.is c.loop-write.invariant c.in_ok-one.ensures c.in_ok-push_some.ensures
