use Rattle.bac_device_poller.proofs.Statuses.{status_is_told}
use Rattle.bac_device_poller.proofs.status_laws.status_is_told.Goals as goal

pub returns : goal.returns
returns c = status_is_told
