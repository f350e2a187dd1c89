use Rattle.bac_walk.proofs.Loggable.{replies_loggable}
use Rattle.bac_walk.proofs.laws.replies_are_loggable.Goals as goal

pub returns : goal.returns
returns g c = replies_loggable g.L.LogLink.asks (λ link id r M H. g.L.LogLink.is_ours link id r M H) g.met.L.LogLink.tells_ours
