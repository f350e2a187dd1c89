use Rattle.bac_link.proofs.Growing.{histories_on}
use Rattle.bac_link.proofs.laws.histories_go_on.Goals as goal

pub returns : goal.returns
returns c = histories_on
