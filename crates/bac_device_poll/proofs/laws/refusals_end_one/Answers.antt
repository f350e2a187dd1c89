use Rattle.bac_device_poll.proofs.RefusedOne.{refusals_end_one}
use Rattle.bac_device_poll.proofs.laws.refusals_end_one.Goals as goal

pub returns : goal.returns
returns c = refusals_end_one
