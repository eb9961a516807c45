use Rattle.std.proofs.Common.{◌≡◌, ◌≤◌, ℕ, take}
use Rattle.live_log.specs.AppendCounts.{total_at}
use Rattle.live_log.specs.Engines.{records_in}
use Rattle.live_log.specs.Closing.{EachCounted, EachSound}
use Rattle.live_log.proofs.closing.audit_all.Given as goal

abbrev pub invariant-loop-at : goal.invariant-loop-at
invariant-loop-at g l =
    (l.engines.items ≡ l.fn.engines.items)
    × ((n : ℕ) → 1 ≤ n → n ≤ 16 → total_at l.counts n ≡ records_in n l.list)
    × EachCounted l.list (take l.at l.fn.engines.items)
    × EachSound (take l.at l.fn.engines.items)
