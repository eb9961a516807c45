use Rattle.std.proofs.Common.{◌≡◌, [], replicate}
use Rattle.cluster_events.proofs.opening.new_txns.Given as goal

abbrev pub invariant-loop : goal.invariant-loop
invariant-loop l = l.txns.items ≡ replicate l.counter []
