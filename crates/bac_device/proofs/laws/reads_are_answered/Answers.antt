use Rattle.bac_device.proofs.Asking.{read_answered}
use Rattle.bac_device.proofs.laws.reads_are_answered.Goals as goal

pub returns : goal.returns
returns c = read_answered
