use Rattle.bac_site_poller.proofs.HostLimits.{keeps_to_limits}
use Rattle.bac_site_poller.proofs.laws.keeps_to_limits.Goals as goal

pub returns : goal.returns
returns c = keeps_to_limits
