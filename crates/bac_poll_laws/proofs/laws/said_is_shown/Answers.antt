use Rattle.bac_poll_laws.proofs.Saids.{said_shown}
use Rattle.bac_poll_laws.proofs.laws.said_is_shown.Goals as goal

pub returns : goal.returns
returns c = said_shown
