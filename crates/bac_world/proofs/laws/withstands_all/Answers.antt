use Rattle.bac_world.proofs.Withstands.{withstands}
use Rattle.bac_world.proofs.laws.withstands_all.Goals as goal

pub returns : goal.returns
returns c = withstands
