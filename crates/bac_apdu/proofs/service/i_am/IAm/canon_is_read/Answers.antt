use Rattle.bac_apdu.proofs.Services.{announcement_again}
use Rattle.bac_apdu.proofs.service.i_am.IAm.canon_is_read.Goals as goal

pub returns : goal.returns
returns c = announcement_again
