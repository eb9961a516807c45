use Rattle.boki_model.proofs.Standing.{tell_each_other}
use Rattle.boki_model.proofs.order_laws.locations_tell_seqnums.Goals as goal

pub returns : goal.returns
returns g c = tell_each_other
