use Rattle.bac_device_poll.proofs.Foreign.{keeps_no_other}
use Rattle.bac_device_poll.proofs.laws.keeps_no_other.Goals as goal

pub returns : goal.returns
returns c = keeps_no_other
