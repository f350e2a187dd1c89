use Rattle.bac_device.proofs.Built.{are_commanded}
use Rattle.bac_device.proofs.laws.built_objects_are_commanded.Goals as goal

pub returns : goal.returns
returns c = are_commanded
