use Rattle.bac_device_poller.proofs.LostLogs.{lost_stops_none}
use Rattle.bac_device_poller.proofs.laws.lost_stops_none.Goals as goal

pub returns : goal.returns
returns c = lost_stops_none
