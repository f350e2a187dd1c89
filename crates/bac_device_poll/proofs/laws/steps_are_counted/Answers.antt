use Rattle.bac_device_poll.proofs.Steps.{steps_are_counted}
use Rattle.bac_device_poll.proofs.laws.steps_are_counted.Goals as goal

pub returns : goal.returns
returns c = steps_are_counted
