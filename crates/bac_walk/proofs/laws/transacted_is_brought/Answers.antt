use Rattle.bac_walk.proofs.Transacted.{brought_plain}
use Rattle.bac_walk.proofs.laws.transacted_is_brought.Goals as goal

pub returns : goal.returns
returns g c = brought_plain g.L.LogLink.asks
