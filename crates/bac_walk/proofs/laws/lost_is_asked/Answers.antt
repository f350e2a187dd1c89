use Rattle.bac_walk.proofs.Counted.{lost_asked}
use Rattle.bac_walk.proofs.laws.lost_is_asked.Goals as goal

pub returns : goal.returns
returns g c = lost_asked g.L.LogLink.asks
