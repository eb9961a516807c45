use Rattle.boki_model.proofs.Positions.{changes_no_last}
use Rattle.boki_model.proofs.write_laws.last_writes_stay.Goals as goal

pub returns : goal.returns
returns c = changes_no_last
