use Rattle.bac_device.proofs.Samples.{leave}
use Rattle.bac_device.proofs.logs.other_writes_leave_logs.Goals as goal

pub returns : goal.returns
returns c = leave
