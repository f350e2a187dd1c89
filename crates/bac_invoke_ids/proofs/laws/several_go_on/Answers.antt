use Rattle.bac_invoke_ids.proofs.Several.{several_go_on}
use Rattle.bac_invoke_ids.proofs.laws.several_go_on.Goals as goal

pub returns : goal.returns
returns c = several_go_on
