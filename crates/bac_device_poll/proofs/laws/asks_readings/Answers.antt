use Rattle.bac_device_poll.proofs.OnlyAsked.{asks_readings}
use Rattle.bac_device_poll.proofs.laws.asks_readings.Goals as goal

pub returns : goal.returns
returns c = asks_readings
