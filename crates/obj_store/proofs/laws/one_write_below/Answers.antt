use Rattle.obj_store.proofs.LawProofs.{one_below}
use Rattle.obj_store.proofs.laws.one_write_below.Goals as goal

pub returns : goal.returns
returns c = one_below
