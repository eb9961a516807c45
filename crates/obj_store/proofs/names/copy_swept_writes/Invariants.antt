use Rattle.std.proofs.Common.{◌≡◌, take}
use Rattle.obj_store.specs.Sweeps.{swept_writes}
use Rattle.obj_store.proofs.names.copy_swept_writes.Given as goal

abbrev pub invariant-loop-write : goal.invariant-loop-write
invariant-loop-write l = l.passed.items ≡ swept_writes l.names.entries (take l.write-index l.settled)
