use Rattle.bac_walk.proofs.Window.{said_means}
use Rattle.bac_walk.proofs.laws.said_means.Goals as goal

pub returns : goal.returns
returns c = said_means
