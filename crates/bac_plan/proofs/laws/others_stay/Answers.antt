use Rattle.bac_plan.proofs.NamedLemmas.{others_stay}
use Rattle.bac_plan.proofs.laws.others_stay.Goals as goal

pub returns : goal.returns
returns c = others_stay
