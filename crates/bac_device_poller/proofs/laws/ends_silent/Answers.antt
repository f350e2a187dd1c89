use Rattle.bac_device_poller.proofs.SilentEnd.{ends_silent}
use Rattle.bac_device_poller.proofs.laws.ends_silent.Goals as goal

pub returns : goal.returns
returns c = ends_silent
