use Rattle.std.proofs.Common.{◌≤◌, length, take}
use Rattle.eng_index.specs.IndexState.{IsIndexOf}
use Rattle.live_log.specs.Appended.{log_of}
use Rattle.live_log.proofs.engine.index_rest.Given as goal

abbrev pub invariant-loop-at : goal.invariant-loop-at
invariant-loop-at l = (l.at ≤ length l.copy) × (length l.fn.index.marks ≤ l.at) × IsIndexOf (log_of (take l.at l.copy)) l.index
