use Rattle.boki_model.proofs.Cuts.{length_total}
use Rattle.boki_model.proofs.order_laws.length_is_total.Goals as goal

pub returns : goal.returns
returns g c = length_total
