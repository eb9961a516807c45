use Rattle.std.proofs.Common.{◌≡◌}
use Rattle.live_work.specs.Teams.{engines_of}
use Rattle.live_work.proofs.team.enlist.Given as goal

abbrev pub invariant-loop-engine : goal.invariant-loop-engine
invariant-loop-engine g l = engines_of l.team.items ≡ l.yielded
