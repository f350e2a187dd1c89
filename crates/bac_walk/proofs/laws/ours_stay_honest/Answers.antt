use Rattle.bac_walk.proofs.Growing.{ours_stay}
use Rattle.bac_walk.proofs.Ours.{ours_are_honest}
use Rattle.bac_walk.proofs.laws.ours_stay_honest.Goals as goal

pub returns : goal.returns
returns g c =
    ours_stay g.L.LogLink.asks (λ link id r M H. g.L.LogLink.is_ours link id r M H) g.met.L.LogLink.serves
    (ours_are_honest g.L.LogLink.asks (λ link id r M H. g.L.LogLink.is_ours link id r M H) g.met.L.LogLink.serves g.met.L.LogLink.tells_ours)
