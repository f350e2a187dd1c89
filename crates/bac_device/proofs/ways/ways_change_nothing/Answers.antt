use Rattle.bac_device.proofs.WaysBack.{change_nothing}
use Rattle.bac_device.proofs.ways.ways_change_nothing.Goals as goal

pub returns : goal.returns
returns c = change_nothing
