use Rattle.bac_walk.proofs.Came.{brought_delivers}
use Rattle.bac_walk.proofs.laws.brought_is_delivered.Goals as goal

pub returns : goal.returns
returns g c = brought_delivers g.L.LogLink.asks
