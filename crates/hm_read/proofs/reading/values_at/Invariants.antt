use Rattle.std.proofs.Common.{take}
use Rattle.hm_read.specs.FreeReads.{AreFreeValues}
use Rattle.hm_read.proofs.reading.values_at.Given as goal

abbrev pub invariant-loop-key : goal.invariant-loop-key
invariant-loop-key l = AreFreeValues l.book l.store l.engine l.cursor.0 (take l.key-index l.keys) l.values
