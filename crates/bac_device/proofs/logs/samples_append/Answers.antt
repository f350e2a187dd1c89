use Rattle.bac_device.proofs.Samples.{appended}
use Rattle.bac_device.proofs.logs.samples_append.Goals as goal

pub returns : goal.returns
returns c = appended
