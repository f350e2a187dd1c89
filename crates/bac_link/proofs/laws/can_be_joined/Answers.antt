use Rattle.bac_link.proofs.Delivers.{joined}
use Rattle.bac_link.proofs.laws.can_be_joined.Goals as goal

pub returns : goal.returns
returns c = joined
