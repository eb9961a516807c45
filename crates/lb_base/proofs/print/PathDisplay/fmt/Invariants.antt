use Rattle.std.proofs.Common.{take}
use Rattle.std.specs.Fmt.{HasWritten, IsPlainFormatter}
use Rattle.lb_base.specs.Print.{dotted}
use Rattle.lb_base.proofs.print.PathDisplay.fmt.Given as goal

abbrev pub invariant-numbers : goal.invariant-numbers
invariant-numbers g l = IsPlainFormatter l.initial.f → HasWritten g.W.Write.write_str_gives l.initial.f (dotted (take l.n-index l.rest)) l.f
