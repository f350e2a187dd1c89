use Rattle.bac_apdu.proofs.Services.{range_again}
use Rattle.bac_apdu.proofs.service.read_range.ReadRange.canon_is_read.Goals as goal

pub returns : goal.returns
returns c = range_again
