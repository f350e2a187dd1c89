use Rattle.bac_poll_laws.proofs.Backs.{backwards_few}
use Rattle.bac_poll_laws.proofs.laws.backwards_are_few.Goals as goal

pub returns : goal.returns
returns c = backwards_few
