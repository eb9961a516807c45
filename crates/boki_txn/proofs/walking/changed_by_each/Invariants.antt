use Rattle.boki_txn.proofs.Walks.{HaveChanged}
use Rattle.boki_txn.proofs.walking.changed_by_each.Given as goal

abbrev pub invariant-loop-seq : goal.invariant-loop-seq
invariant-loop-seq l = HaveChanged l.book l.seqs l.seq-index l.fn.names l.names
