use Rattle.bac_apdu.proofs.ShownFields.{same_range}
use Rattle.bac_apdu.proofs.service.read_range.ReadRange.parameters_tell_fields.Goals as goal

pub returns : goal.returns
returns c = same_range
