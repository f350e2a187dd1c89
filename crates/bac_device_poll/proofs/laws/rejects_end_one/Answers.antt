use Rattle.bac_device_poll.proofs.RejectedOne.{rejects_end_one}
use Rattle.bac_device_poll.proofs.laws.rejects_end_one.Goals as goal

pub returns : goal.returns
returns c = rejects_end_one
