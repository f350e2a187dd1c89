use Rattle.bac_device.proofs.ReadBack.{ack_again}
use Rattle.bac_device.proofs.laws.acks_are_read_back.Goals as goal

pub returns : goal.returns
returns c = ack_again
