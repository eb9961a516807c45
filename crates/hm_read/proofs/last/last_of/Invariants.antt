use Rattle.std.proofs.Common.{◌≡◌, ◌-◌, length, take}
use Rattle.hm_read.specs.LastWrites.{last_written}
use Rattle.hm_read.proofs.last.last_of.Given as goal

abbrev pub invariant-loop-past : goal.invariant-loop-past
invariant-loop-past l =
    last_written l.book l.key l.seqs ≡ last_written l.book l.key (take (length l.seqs - l.past) l.seqs)
