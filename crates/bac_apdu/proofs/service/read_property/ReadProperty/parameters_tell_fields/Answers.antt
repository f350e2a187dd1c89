use Rattle.bac_apdu.proofs.ShownFields.{same_property}
use Rattle.bac_apdu.proofs.service.read_property.ReadProperty.parameters_tell_fields.Goals as goal

pub returns : goal.returns
returns c = same_property
