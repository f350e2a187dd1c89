use Rattle.bac_device_poll.proofs.LostOne.{losses_end_one}
use Rattle.bac_device_poll.proofs.laws.losses_end_one.Goals as goal

pub returns : goal.returns
returns c = losses_end_one
