use Rattle.bac_site_poller.proofs.Open.{open_within}
use Rattle.bac_site_poller.proofs.laws.open_within.Goals as goal

pub returns : goal.returns
returns c = open_within
