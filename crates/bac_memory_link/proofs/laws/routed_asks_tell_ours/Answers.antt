use Rattle.bac_memory_link.proofs.Routed.{tells_routed}
use Rattle.bac_memory_link.proofs.laws.routed_asks_tell_ours.Goals as goal

pub returns : goal.returns
returns g c = λ far near far_is near_is tells.
    tells_routed g.L.LogLink.asks (λ link id r M H. g.L.LogLink.is_ours link id r M H) g.met.L.LogLink.serves tells far near far_is near_is
