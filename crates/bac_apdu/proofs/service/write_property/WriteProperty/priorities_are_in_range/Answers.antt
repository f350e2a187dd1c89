use Rattle.bac_apdu.proofs.Ranges.{priorities_valid}
use Rattle.bac_apdu.proofs.service.write_property.WriteProperty.priorities_are_in_range.Goals as goal

pub returns : goal.returns
returns c = priorities_valid
