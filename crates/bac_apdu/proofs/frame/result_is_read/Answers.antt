use Rattle.bac_apdu.proofs.Heads.{result_again}
use Rattle.bac_apdu.proofs.frame.result_is_read.Goals as goal

pub returns : goal.returns
returns c = result_again
