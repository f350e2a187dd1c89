use Rattle.bac_device_poll.proofs.ReadAgain.{asks_again}
use Rattle.bac_device_poll.proofs.laws.asks_again.Goals as goal

pub returns : goal.returns
returns c = asks_again
