use Rattle.bac_poll_laws.proofs.Saids.{kept_logged}
use Rattle.bac_poll_laws.proofs.laws.kept_is_logged.Goals as goal

pub returns : goal.returns
returns c = kept_logged
