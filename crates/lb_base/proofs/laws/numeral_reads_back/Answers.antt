use Rattle.lb_base.proofs.NumeralLaws.{numeral-reads_back, numeral-one_spelling}
use Rattle.lb_base.proofs.laws.numeral_reads_back.Goals as goal

pub returns-clause-again : goal.returns-clause-again
returns-clause-again c = numeral-reads_back

pub returns-clause-once : goal.returns-clause-once
returns-clause-once c = numeral-one_spelling
