use Rattle.std.proofs.Common.{sym, subst, List, ℕ}
use Rattle.std.specs.Fmt.{HasWritten}
use Rattle.lb_base.proofs.QuotedLemmas.{escaped_char}
use Rattle.lb_base.proofs.print.write_escaped.Goals as goal

pub returns-else-c-eq10 : goal.returns-else-c-eq10
returns-else-c-eq10 g c plain ok =
    let P : List ℕ → Type 0 = λ text. HasWritten g.W.Write.write_str_gives c.args.f.now text c.write_char.new.self in
    subst P (sym (escaped_char c.args.c c.if-c-eq34.false c.if-c-eq92.false c.if-c-eq10.false)) (c.write_char.ensures.writes plain ok)
