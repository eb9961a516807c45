use Rattle.exactly_once.proofs.Invariant.NamedValueKeeps.{names_keep}
use Rattle.exactly_once.proofs.storing_keeps_invariant.Goals as goal

pub returns : goal.returns
returns c = names_keep
