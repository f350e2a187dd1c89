use Rattle.bac_walk.proofs.Transacted.{transacted_bounded}
use Rattle.bac_walk.proofs.laws.transacted_is_bounded.Goals as goal

pub returns : goal.returns
returns g c = transacted_bounded g.L.LogLink.asks
