use Rattle.lb_base.proofs.QuotedLaws.{quoted-reads_back, quoted-one_spelling}
use Rattle.lb_base.proofs.laws.quoted_reads_back.Goals as goal

pub returns-clause-again : goal.returns-clause-again
returns-clause-again c = quoted-reads_back

pub returns-clause-once : goal.returns-clause-once
returns-clause-once c = quoted-one_spelling
