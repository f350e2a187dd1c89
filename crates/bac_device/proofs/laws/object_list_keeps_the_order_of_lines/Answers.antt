use Rattle.bac_device.proofs.Built.{in_order}
use Rattle.bac_device.proofs.laws.object_list_keeps_the_order_of_lines.Goals as goal

pub returns : goal.returns
returns c = in_order
