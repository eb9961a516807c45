use Rattle.std.proofs.Common.{◌≡◌, drop}
use Rattle.boki_txn.specs.Names.{put_writes}
use Rattle.boki_txn.proofs.stored.Names.put_writes.Given as goal

abbrev pub invariant-writes : goal.invariant-writes
invariant-writes l = put_writes l.commit (drop l.write-index l.writes) l.self ≡ put_writes l.commit l.writes l.fn.self
