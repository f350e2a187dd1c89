use Rattle.bac_apdu.proofs.Shorts.{i_am_short}
use Rattle.bac_apdu.proofs.service.i_am.IAm.canon_is_short.Goals as goal

pub returns : goal.returns
returns c = i_am_short
