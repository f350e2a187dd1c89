use Rattle.bac_poll_laws.proofs.ByHeld.{by_held}
use Rattle.bac_poll_laws.proofs.laws.questions_by_held.Goals as goal

pub returns : goal.returns
returns c = by_held
