use Rattle.bac_apdu.proofs.ShownFields.{same_property_ack}
use Rattle.bac_apdu.proofs.service.read_property_ack.ReadPropertyAck.parameters_tell_fields.Goals as goal

pub returns : goal.returns
returns c = same_property_ack
