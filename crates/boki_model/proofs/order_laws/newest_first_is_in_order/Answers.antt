use Rattle.boki_model.proofs.Orders.{newest_first_in_order}
use Rattle.boki_model.proofs.order_laws.newest_first_is_in_order.Goals as goal

pub returns : goal.returns
returns g c = newest_first_in_order
