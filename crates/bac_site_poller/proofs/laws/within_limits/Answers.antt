use Rattle.bac_site_poller.proofs.WithinEvents.{within_limits}
use Rattle.bac_site_poller.proofs.laws.within_limits.Goals as goal

pub returns : goal.returns
returns c = within_limits
