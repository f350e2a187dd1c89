use Rattle.bac_link.proofs.Delivers.{resumed}
use Rattle.bac_link.proofs.laws.can_be_resumed.Goals as goal

pub returns : goal.returns
returns c = resumed
