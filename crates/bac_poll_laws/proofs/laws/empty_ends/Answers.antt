use Rattle.bac_poll_laws.proofs.Empty.{empty_ends}
use Rattle.bac_poll_laws.proofs.laws.empty_ends.Goals as goal

pub returns : goal.returns
returns c = empty_ends
