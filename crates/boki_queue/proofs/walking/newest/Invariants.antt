use Rattle.boki_queue.specs.Shared.{kept_states}
use Rattle.boki_queue.proofs.Walks.{HasWalked}
use Rattle.boki_queue.proofs.walking.newest.Given as goal

abbrev pub invariant-loop-count : goal.invariant-loop-count
invariant-loop-count g l = HasWalked (kept_states l.rows.items l.entries) l.queue l.seqs l.count l.fn.steps l.steps

abbrev pub decreases-loop-count : goal.decreases-loop-count
decreases-loop-count g l = l.count
