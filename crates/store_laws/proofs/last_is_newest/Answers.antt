use Rattle.store_laws.proofs.Newest.{last_is_newest}
use Rattle.store_laws.proofs.last_is_newest.Goals as goal

pub returns : goal.returns
returns c = last_is_newest
