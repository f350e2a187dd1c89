use Rattle.bac_walk.proofs.Came.{said_taken}
use Rattle.bac_walk.proofs.laws.said_is_taken.Goals as goal

pub returns : goal.returns
returns c = said_taken
