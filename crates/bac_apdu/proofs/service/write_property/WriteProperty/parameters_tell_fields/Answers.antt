use Rattle.bac_apdu.proofs.ShownFields.{same_write}
use Rattle.bac_apdu.proofs.service.write_property.WriteProperty.parameters_tell_fields.Goals as goal

pub returns : goal.returns
returns c = same_write
