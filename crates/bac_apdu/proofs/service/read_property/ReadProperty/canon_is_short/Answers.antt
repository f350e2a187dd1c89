use Rattle.bac_apdu.proofs.Shorts.{property_short}
use Rattle.bac_apdu.proofs.service.read_property.ReadProperty.canon_is_short.Goals as goal

pub returns : goal.returns
returns c = property_short
