use Rattle.std.proofs.Common.{◌≡◌, None}
use Rattle.hm_switch.proofs.Found.{least_with}
use Rattle.hm_switch.proofs.lives.Lives.least_open.Given as goal

abbrev pub invariant-loop-seq : goal.invariant-loop-seq
invariant-loop-seq l = least_with l.below l.least l.seq-iterator ≡ least_with l.below None l.self.opened.entries
