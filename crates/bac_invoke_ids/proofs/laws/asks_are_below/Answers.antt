use Rattle.bac_invoke_ids.proofs.Below.{below}
use Rattle.bac_invoke_ids.proofs.laws.asks_are_below.Goals as goal

pub returns : goal.returns
returns g c = below g.P.Port.sends g.P.Port.receives
