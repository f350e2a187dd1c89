use Rattle.bac_plan.proofs.StoppedLemmas.{others_go_on}
use Rattle.bac_plan.proofs.laws.others_go_on.Goals as goal

pub returns : goal.returns
returns c = others_go_on
