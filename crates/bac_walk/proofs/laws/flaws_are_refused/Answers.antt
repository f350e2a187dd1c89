use Rattle.bac_walk.proofs.Flaws.{refused}
use Rattle.bac_walk.proofs.laws.flaws_are_refused.Goals as goal

pub returns : goal.returns
returns c = refused
