use Rattle.lb_base.proofs.Escaping.{Escaping}
use Rattle.lb_base.proofs.print.QuotedDisplay.fmt.Given as goal

abbrev pub invariant-chars : goal.invariant-chars
invariant-chars g l = Escaping g.W.Write.write_str_gives l.initial.f l.f l.c-iterator.rest.now l.self.0.now
