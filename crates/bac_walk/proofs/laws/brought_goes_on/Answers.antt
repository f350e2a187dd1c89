use Rattle.bac_walk.proofs.Follows.{brought_goes}
use Rattle.bac_walk.proofs.laws.brought_goes_on.Goals as goal

pub returns : goal.returns
returns g c = brought_goes g.L.LogLink.asks
