use Rattle.bac_apdu.proofs.Services.{write_again}
use Rattle.bac_apdu.proofs.service.write_property.WriteProperty.canon_is_read.Goals as goal

pub returns : goal.returns
returns c = write_again
