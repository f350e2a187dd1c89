use Rattle.bac_site_poller.proofs.WithinRun.{wants_within}
use Rattle.bac_site_poller.proofs.laws.wants_within.Goals as goal

pub returns : goal.returns
returns c = wants_within
