use Rattle.bac_keeping.proofs.Idle.{nobody_asked}
use Rattle.bac_keeping.proofs.laws.idle_asks_nobody.Goals as goal

pub returns : goal.returns
returns g c = nobody_asked g.P.Port.sends g.P.Port.receives_within g.C.Clock.reads
