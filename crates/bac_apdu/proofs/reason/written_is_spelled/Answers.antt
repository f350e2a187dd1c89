use Rattle.bac_apdu.proofs.Writings.{form_reads}
use Rattle.bac_apdu.proofs.reason.written_is_spelled.Goals as goal

pub returns : goal.returns
returns c = form_reads
