use Rattle.bac_device.proofs.Questions.{built_has}
use Rattle.bac_device.proofs.logs.built_devices_have_logs.Goals as goal

pub returns : goal.returns
returns c = built_has
