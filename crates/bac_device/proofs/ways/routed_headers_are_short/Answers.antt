use Rattle.bac_device.proofs.WaysBack.{short}
use Rattle.bac_device.proofs.ways.routed_headers_are_short.Goals as goal

pub returns : goal.returns
returns c = short
