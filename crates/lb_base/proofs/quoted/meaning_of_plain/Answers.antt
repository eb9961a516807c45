use Rattle.lb_base.proofs.QuotedLemmas.{closes, breaks, escapes, inside_char}
use Rattle.lb_base.proofs.quoted.meaning_of_plain.Goals as goal

pub returns-then-c-eq34 : goal.returns-then-c-eq34
returns-then-c-eq34 c = closes c.args.c c.if-c-eq34.true

pub returns-then-c-eq10 : goal.returns-then-c-eq10
returns-then-c-eq10 c = breaks c.args.c c.if-c-eq10.true

pub returns-then-c-eq92 : goal.returns-then-c-eq92
returns-then-c-eq92 c = escapes c.args.c c.if-c-eq92.true

pub returns-else-c-eq92 : goal.returns-else-c-eq92
returns-else-c-eq92 c = λ rest. inside_char c.args.c rest c.if-c-eq34.false c.if-c-eq92.false c.if-c-eq10.false
