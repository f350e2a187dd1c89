use Rattle.bac_socket_notes.proofs.Below.{asks_below}
use Rattle.bac_trace.proofs.laws.asks_are_below.Goals as goal

pub returns : goal.returns
returns g c = asks_below _ _ _ g.P.Port.sends g.P.Port.receives (λ a b octets to sent h. h.0) (λ a b heard h. h.0)
