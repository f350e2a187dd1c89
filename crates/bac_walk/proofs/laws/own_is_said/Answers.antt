use Rattle.bac_walk.proofs.Own.{own_said}
use Rattle.bac_walk.proofs.laws.own_is_said.Goals as goal

pub returns : goal.returns
returns c = own_said
