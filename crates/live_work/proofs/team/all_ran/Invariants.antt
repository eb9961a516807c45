use Rattle.std.proofs.Common.{ℕ, ◌≡◌, ◌<◌, false, get_or}
use Rattle.live_log.specs.declared.fault.Stop.TheVariants.{Ran}
use Rattle.live_work.specs.declared.worker.LiveWorker.{LiveWorker}
use Rattle.live_work.proofs.team.all_ran.Given as goal

abbrev pub invariant-loop-worker : goal.invariant-loop-worker
invariant-loop-worker g l = l.short ≡ false → (k : ℕ) (d : LiveWorker g.row.J.Denot g.row.D.Denot) → k < l.worker-index → (get_or l.team k d).stop ≡ Ran
