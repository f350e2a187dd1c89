use Rattle.bac_walk.proofs.Counted.{nothing_came}
use Rattle.bac_walk.proofs.laws.nothing_came.Goals as goal

pub returns : goal.returns
returns g c = nothing_came g.L.LogLink.asks
