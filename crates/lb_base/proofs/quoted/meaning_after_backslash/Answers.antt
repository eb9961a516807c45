use Rattle.std.proofs.Common.{refl, lit<}
use Rattle.lb_base.proofs.QuotedLemmas.{kept, bad_escape}
use Rattle.lb_base.proofs.quoted.meaning_after_backslash.Goals as goal

pub returns-then-c-eq34 : goal.returns-then-c-eq34
returns-then-c-eq34 c = kept 34 (lit< tt) 34 (lit< tt) refl c.args.c c.if-c-eq34.true

pub returns-then-c-eq92 : goal.returns-then-c-eq92
returns-then-c-eq92 c = kept 92 (lit< tt) 92 (lit< tt) refl c.args.c c.if-c-eq92.true

pub returns-then-c-eq110 : goal.returns-then-c-eq110
returns-then-c-eq110 c = kept 110 (lit< tt) 10 (lit< tt) refl c.args.c c.if-c-eq110.true

pub returns-else-c-eq110 : goal.returns-else-c-eq110
returns-else-c-eq110 c = λ rest. bad_escape c.args.c rest c.if-c-eq34.false c.if-c-eq92.false c.if-c-eq110.false
