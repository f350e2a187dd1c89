use Rattle.bac_link.proofs.laws.asks_tell_ours.Goals as goal

pub returns : goal.returns
returns g c = g.met.L.LogLink.tells_ours
