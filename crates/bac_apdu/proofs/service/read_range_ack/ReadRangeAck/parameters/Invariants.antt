use Rattle.bac_apdu.specs.Service.ReadRangeAck.{records}
use Rattle.bac_apdu.proofs.service.read_range_ack.ReadRangeAck.parameters.Given as goal

-- what follows object, property and index
abbrev pub ghost-property : goal.ghost-property
ghost-property a = records
