use Rattle.bac_device_poller.proofs.Statuses.{logs_are_counted}
use Rattle.bac_device_poller.proofs.status_laws.logs_are_counted.Goals as goal

pub returns : goal.returns
returns c = logs_are_counted
