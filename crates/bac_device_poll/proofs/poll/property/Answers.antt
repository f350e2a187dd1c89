use Rattle.bac_device_poll.proofs.Fits.{property_fits}
use Rattle.bac_device_poll.proofs.poll.property.Goals as goal

pub returns-clause-fits : goal.returns-clause-fits
returns-clause-fits c = (property_fits _, tt)
