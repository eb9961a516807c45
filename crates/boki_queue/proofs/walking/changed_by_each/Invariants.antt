use Rattle.boki_queue.proofs.Windows.{HasChanged}
use Rattle.boki_queue.proofs.walking.changed_by_each.Given as goal

abbrev pub invariant-loop-seq : goal.invariant-loop-seq
invariant-loop-seq l = HasChanged l.book l.queue l.seqs l.seq-index l.fn.rows.items l.rows.items l.fn.w l.w
