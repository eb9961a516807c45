use Rattle.lb_base.proofs.NumeralLaws.{integer-reads_back, integer-one_spelling}
use Rattle.lb_base.proofs.laws.integer_reads_back.Goals as goal

pub returns-clause-again : goal.returns-clause-again
returns-clause-again c = integer-reads_back

pub returns-clause-once : goal.returns-clause-once
returns-clause-once c = integer-one_spelling
