use Rattle.std.proofs.Common.{◌≡◌, ◌≤◌, length, take, drop}
use Rattle.live_log.specs.Closing.{IsCaughtUp, Pointwise}
use Rattle.live_log.proofs.closing.catch_up_all.Given as goal

abbrev pub invariant-loop-at : goal.invariant-loop-at
invariant-loop-at g l =
    (l.sequencer ≡ l.fn.sequencer)
    × (length l.engines.items ≡ length l.fn.engines.items)
    × Pointwise (IsCaughtUp l.fn.sequencer) (take l.at l.fn.engines.items) (take l.at l.engines.items)
    × (drop l.at l.engines.items ≡ drop l.at l.fn.engines.items)
    × (g.D.Door.refusals l.fn.door ≤ g.D.Door.refusals l.door)
