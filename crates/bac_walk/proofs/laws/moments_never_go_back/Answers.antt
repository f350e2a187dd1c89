use Rattle.bac_walk.proofs.Back.{never_back}
use Rattle.bac_walk.proofs.laws.moments_never_go_back.Goals as goal

pub returns : goal.returns
returns c = never_back
