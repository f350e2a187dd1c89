use Rattle.bac_apdu.proofs.Shorts.{range_short, range_apdu_short}
use Rattle.bac_apdu.proofs.service.read_range.ReadRange.canon_is_short.Goals as goal

pub returns-clause-parameters : goal.returns-clause-parameters
returns-clause-parameters c = range_short

pub returns-clause-apdu : goal.returns-clause-apdu
returns-clause-apdu c = range_apdu_short
