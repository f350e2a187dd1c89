use Rattle.bac_apdu.specs.FormCanon.{canon_form}
use Rattle.bac_apdu.specs.Service.ReadRange.{read_range, range_parameters, range_in, read_range_at}
use Rattle.bac_apdu.proofs.Services.{range_again}
use Rattle.bac_apdu.proofs.Named.{fields_again, range_back}
use Rattle.bac_apdu.proofs.service.read_range.ReadRange.fields_are_read_back.Goals as goal

pub returns : goal.returns
unfolding read_range_at
returns c = λ r valid extent. fields_again range_in read_range (canon_form read_range (range_parameters r)) (range_parameters r) r (range_again r valid extent) (range_back r)
