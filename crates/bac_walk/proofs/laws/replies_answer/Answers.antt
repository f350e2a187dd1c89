use Rattle.bac_walk.proofs.Late.{replies_answer}
use Rattle.bac_walk.proofs.laws.replies_answer.Goals as goal

pub returns : goal.returns
returns g c = replies_answer g.L.LogLink.asks
