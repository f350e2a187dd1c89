use Rattle.bac_apdu.proofs.Services.{property_ack_again}
use Rattle.bac_apdu.proofs.service.read_property_ack.ReadPropertyAck.canon_is_read.Goals as goal

pub returns : goal.returns
returns c = property_ack_again
