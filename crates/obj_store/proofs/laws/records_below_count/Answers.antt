use Rattle.obj_store.proofs.LawProofs.{records_below}
use Rattle.obj_store.proofs.laws.records_below_count.Goals as goal

pub returns : goal.returns
returns c = records_below
