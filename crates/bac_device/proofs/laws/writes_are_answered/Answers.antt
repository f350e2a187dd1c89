use Rattle.bac_device.proofs.Asking.{write_answered}
use Rattle.bac_device.proofs.laws.writes_are_answered.Goals as goal

pub returns : goal.returns
returns c = write_answered
