use Rattle.bac_apdu.proofs.Sizes.{length-fields}
use Rattle.bac_apdu.proofs.service.read_range_ack.ReadRangeAck.fields_have_a_size.Goals as goal

pub returns : goal.returns
returns c = length-fields
