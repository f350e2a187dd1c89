use Rattle.bac_site_poller.proofs.Statuses.{ends_are_counted}
use Rattle.bac_site_poller.proofs.status_laws.ends_are_counted.Goals as goal

pub returns : goal.returns
returns c = ends_are_counted
