use Rattle.bac_device.proofs.History.{stands}
use Rattle.bac_device.proofs.laws.accepted_writes_stand.Goals as goal

pub returns : goal.returns
returns c = stands
