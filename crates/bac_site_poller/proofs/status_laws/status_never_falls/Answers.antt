use Rattle.bac_site_poller.proofs.Statuses.{status_never_falls}
use Rattle.bac_site_poller.proofs.status_laws.status_never_falls.Goals as goal

pub returns : goal.returns
returns c = status_never_falls
