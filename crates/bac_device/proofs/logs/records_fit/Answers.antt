use Rattle.bac_device.proofs.Fits.{records_fit}
use Rattle.bac_device.proofs.logs.records_fit.Goals as goal

pub returns : goal.returns
returns c = records_fit
