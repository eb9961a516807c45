use Rattle.exactly_once.proofs.Invariant.OrderedRecord.{orders_keep}
use Rattle.exactly_once.proofs.ordering_keeps_invariant.Goals as goal

pub returns : goal.returns
returns c = orders_keep
