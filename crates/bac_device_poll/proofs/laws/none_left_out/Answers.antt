use Rattle.bac_device_poll.proofs.LeftOutRuns.{none_left_out}
use Rattle.bac_device_poll.proofs.laws.none_left_out.Goals as goal

pub returns : goal.returns
returns c = none_left_out
