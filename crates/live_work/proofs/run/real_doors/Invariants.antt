use Rattle.std.proofs.Common.{◌-◌, ◌≤◌, length}
use Rattle.live_work.proofs.run.real_doors.Given as goal

abbrev pub invariant-doors : goal.invariant-doors
invariant-doors l = length l.doors.items ≤ l.n

abbrev pub decreases-doors : goal.decreases-doors
decreases-doors l = l.n - length l.doors.items
