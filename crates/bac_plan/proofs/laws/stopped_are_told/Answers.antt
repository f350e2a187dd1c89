use Rattle.bac_plan.proofs.Told.{stopped_told}
use Rattle.bac_plan.proofs.laws.stopped_are_told.Goals as goal

pub returns : goal.returns
returns c = stopped_told
