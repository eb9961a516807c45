use Rattle.std.proofs.Common.{◌≤◌, length}
use Rattle.boki_txn.proofs.walking.newest_kept.Given as goal

abbrev pub invariant-loop-count : goal.invariant-loop-count
invariant-loop-count l = l.count ≤ length l.seqs

abbrev pub decreases-loop-count : goal.decreases-loop-count
decreases-loop-count l = l.count
