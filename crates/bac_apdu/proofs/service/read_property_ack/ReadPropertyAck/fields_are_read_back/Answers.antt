use Rattle.bac_apdu.specs.FormCanon.{canon_form}
use Rattle.bac_apdu.specs.Service.ReadPropertyAck.{read_property_ack, property_ack_fields, property_ack_in, read_property_ack_at}
use Rattle.bac_apdu.proofs.Services.{property_fields_again}
use Rattle.bac_apdu.proofs.Named.{fields_again_some, property_ack_back}
use Rattle.bac_apdu.proofs.service.read_property_ack.ReadPropertyAck.fields_are_read_back.Goals as goal

pub returns : goal.returns
unfolding read_property_ack_at
returns c = λ a valid level. fields_again_some property_ack_in read_property_ack (canon_form read_property_ack (property_ack_fields a)) (property_ack_fields a) a (property_fields_again a valid level) (property_ack_back a)
