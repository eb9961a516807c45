use Rattle.std.proofs.Common.{◌≡◌, ◌≤◌, ◌⊎◌}
use Rattle.obj_store.specs.Sweeps.{logged_between}
use Rattle.step_log.specs.Sound.{view}
use Rattle.cluster_events.proofs.sweeping.settled_writes.Given as goal

abbrev pub invariant-loop-seq : goal.invariant-loop-seq
invariant-loop-seq l =
    (l.settled ≡ logged_between l.fn.low.0 l.seq (view l.book l.engine)) × (l.fn.low.0 ≤ l.seq) × ((l.seq ≤ l.fn.low.0) ⊎ (l.seq ≤ l.fn.high.0))
