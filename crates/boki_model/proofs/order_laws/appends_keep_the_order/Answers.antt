use Rattle.boki_model.proofs.Orders.{stays}
use Rattle.boki_model.proofs.order_laws.appends_keep_the_order.Goals as goal

pub returns : goal.returns
returns g c = stays
