use Rattle.bac_apdu.specs.Service.ReadPropertyAck.{values}
use Rattle.bac_apdu.proofs.service.read_property_ack.ReadPropertyAck.parameters.Given as goal

-- what follows object, property and index
abbrev pub ghost-property : goal.ghost-property
ghost-property a = values
