use Rattle.bac_walk.proofs.Follows.{brought_tells}
use Rattle.bac_walk.proofs.laws.brought_tells_why.Goals as goal

pub returns : goal.returns
returns g c = brought_tells g.L.LogLink.asks
