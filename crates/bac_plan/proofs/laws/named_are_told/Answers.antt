use Rattle.bac_plan.proofs.Told.{named_told}
use Rattle.bac_plan.proofs.laws.named_are_told.Goals as goal

pub returns : goal.returns
returns c = named_told
