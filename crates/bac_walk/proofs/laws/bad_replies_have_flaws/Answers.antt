use Rattle.bac_walk.proofs.Flaws.{have_flaws}
use Rattle.bac_walk.proofs.laws.bad_replies_have_flaws.Goals as goal

pub returns : goal.returns
returns g c = have_flaws g.L.LogLink.asks
