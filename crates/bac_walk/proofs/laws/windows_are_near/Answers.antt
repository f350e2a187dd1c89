use Rattle.bac_walk.proofs.Near.{windows_near}
use Rattle.bac_walk.proofs.laws.windows_are_near.Goals as goal

pub returns : goal.returns
returns c = windows_near
