use Rattle.bac_apdu.proofs.Services.{ack_again}
use Rattle.bac_apdu.proofs.service.read_range_ack.ReadRangeAck.canon_is_read.Goals as goal

pub returns : goal.returns
returns c = ack_again
