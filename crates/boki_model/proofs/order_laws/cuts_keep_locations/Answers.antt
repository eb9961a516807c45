use Rattle.boki_model.proofs.Cuts.{adds_just_new}
use Rattle.boki_model.proofs.order_laws.cuts_keep_locations.Goals as goal

pub returns : goal.returns
returns g c = adds_just_new
