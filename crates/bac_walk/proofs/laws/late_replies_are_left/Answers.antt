use Rattle.bac_walk.proofs.Late.{late_left}
use Rattle.bac_walk.proofs.laws.late_replies_are_left.Goals as goal

pub returns : goal.returns
returns g c = late_left g.L.LogLink.asks
