use Rattle.obj_store.proofs.LawProofs.{none_settled}
use Rattle.obj_store.proofs.laws.no_settled_name.Goals as goal

pub returns : goal.returns
returns c = none_settled
