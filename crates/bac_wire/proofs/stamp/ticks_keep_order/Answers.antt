use Rattle.bac_wire.proofs.Order.{ticks_order}
use Rattle.bac_wire.proofs.stamp.ticks_keep_order.Goals as goal

pub returns : goal.returns
returns c = ticks_order
