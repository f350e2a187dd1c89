use Rattle.bac_device.proofs.Samples.{ticks}
use Rattle.bac_device.proofs.logs.ticks_append.Goals as goal

pub returns : goal.returns
returns c = ticks
