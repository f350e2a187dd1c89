use Rattle.bac_site_poller.proofs.SeatedRun.{site_sends_ask}
use Rattle.bac_site_poller.proofs.laws.site_sends_ask.Goals as goal

pub returns : goal.returns
returns c = site_sends_ask
