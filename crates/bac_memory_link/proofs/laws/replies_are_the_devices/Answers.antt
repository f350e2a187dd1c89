use Rattle.bac_memory_link.proofs.Replies.{ack_is, said_again}
use Rattle.bac_memory_link.proofs.laws.replies_are_the_devices.Goals as goal

pub returns-clause-ack : goal.returns-clause-ack
returns-clause-ack c = ack_is

pub returns-clause-datagram : goal.returns-clause-datagram
returns-clause-datagram c = said_again
