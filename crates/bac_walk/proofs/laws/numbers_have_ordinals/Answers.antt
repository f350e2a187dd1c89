use Rattle.bac_walk.proofs.Back.{near_ordinals}
use Rattle.bac_walk.proofs.laws.numbers_have_ordinals.Goals as goal

pub returns : goal.returns
returns c = near_ordinals
