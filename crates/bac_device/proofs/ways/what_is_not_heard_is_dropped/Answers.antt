use Rattle.bac_device.proofs.WaysBack.{drops}
use Rattle.bac_device.proofs.ways.what_is_not_heard_is_dropped.Goals as goal

pub returns : goal.returns
returns c = drops
