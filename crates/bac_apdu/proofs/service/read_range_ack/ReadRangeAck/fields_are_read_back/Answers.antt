use Rattle.bac_apdu.specs.FormCanon.{canon_form}
use Rattle.bac_apdu.specs.Service.ReadRangeAck.{read_range_ack, range_ack_fields, range_ack_in, read_range_ack_at}
use Rattle.bac_apdu.proofs.Services.{range_fields_again}
use Rattle.bac_apdu.proofs.Named.{fields_again_some, range_ack_back}
use Rattle.bac_apdu.proofs.service.read_range_ack.ReadRangeAck.fields_are_read_back.Goals as goal

pub returns : goal.returns
unfolding read_range_ack_at
returns c = λ a valid count first level. fields_again_some range_ack_in read_range_ack (canon_form read_range_ack (range_ack_fields a)) (range_ack_fields a) a (range_fields_again a valid count first level) (range_ack_back a)
