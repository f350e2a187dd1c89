use Rattle.bac_walk.proofs.Runs.{collected_delivers}
use Rattle.bac_walk.proofs.laws.collected_is_delivered.Goals as goal

pub returns : goal.returns
returns c = collected_delivers
