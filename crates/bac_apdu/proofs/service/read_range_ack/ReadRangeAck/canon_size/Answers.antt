use Rattle.bac_apdu.proofs.Sizes.{length-ack, length-log_ack, first_size}
use Rattle.bac_apdu.proofs.service.read_range_ack.ReadRangeAck.canon_size.Goals as goal

pub returns-clause-parameters : goal.returns-clause-parameters
returns-clause-parameters c = length-ack

pub returns-clause-apdu : goal.returns-clause-apdu
returns-clause-apdu c = length-log_ack

pub returns-clause-first_number : goal.returns-clause-first_number
returns-clause-first_number c = first_size
