use Rattle.bac_apdu.proofs.Ranges.{extents_valid}
use Rattle.bac_apdu.proofs.service.read_range.ReadRange.extents_are_in_range.Goals as goal

pub returns : goal.returns
returns c = extents_valid
