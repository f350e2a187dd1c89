use Rattle.bac_apdu.proofs.ShownFields.{same_range_ack}
use Rattle.bac_apdu.proofs.service.read_range_ack.ReadRangeAck.parameters_tell_fields.Goals as goal

pub returns : goal.returns
returns c = same_range_ack
