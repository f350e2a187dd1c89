use Rattle.bac_site_poller.proofs.Within.{stays_within}
use Rattle.bac_site_poller.proofs.laws.stays_within.Goals as goal

pub returns : goal.returns
returns c = stays_within
