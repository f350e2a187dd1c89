use Rattle.bac_apdu.proofs.Services.{property_again}
use Rattle.bac_apdu.proofs.service.read_property.ReadProperty.canon_is_read.Goals as goal

pub returns : goal.returns
returns c = property_again
