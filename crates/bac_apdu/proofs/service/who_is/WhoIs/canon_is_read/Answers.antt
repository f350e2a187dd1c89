use Rattle.bac_apdu.proofs.Services.{limits_again}
use Rattle.bac_apdu.proofs.service.who_is.WhoIs.canon_is_read.Goals as goal

pub returns : goal.returns
returns c = limits_again
