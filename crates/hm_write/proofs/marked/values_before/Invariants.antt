use Rattle.std.proofs.Common.{take}
use Rattle.hm_write.specs.Marked.{AreMarkedValues}
use Rattle.hm_write.proofs.marked.values_before.Given as goal

abbrev pub invariant-loop-key : goal.invariant-loop-key
invariant-loop-key l = AreMarkedValues l.book l.store l.engine l.at.0 (take l.key-index l.keys) l.values
