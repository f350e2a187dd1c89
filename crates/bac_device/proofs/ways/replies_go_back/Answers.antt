use Rattle.bac_device.proofs.WaysBack.{go_back}
use Rattle.bac_device.proofs.ways.replies_go_back.Goals as goal

pub returns : goal.returns
returns c = go_back
