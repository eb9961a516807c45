use Rattle.std.proofs.Common.{◌≡◌, take, length}
use mathlib.Core.List.{IsPrefix}
use Rattle.live_log.proofs.hall.copy_rest.Given as goal

abbrev pub invariant-loop-at : goal.invariant-loop-at
invariant-loop-at l = (length l.copy ≡ l.at) × (l.copy ≡ take l.at l.list) × IsPrefix l.fn.copy l.copy
