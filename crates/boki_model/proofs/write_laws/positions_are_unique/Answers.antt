use Rattle.boki_model.proofs.Positions.{positions_unique}
use Rattle.boki_model.proofs.write_laws.positions_are_unique.Goals as goal

pub returns : goal.returns
returns c = positions_unique
