use Rattle.bac_walk.proofs.RestAll.{rests_all}
use Rattle.bac_walk.proofs.laws.rests_all.Goals as goal

pub returns : goal.returns
returns c = rests_all
