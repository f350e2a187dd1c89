use Rattle.bac_site_poller.proofs.Batches.{batches_within}
use Rattle.bac_site_poller.proofs.laws.batches_within.Goals as goal

pub returns : goal.returns
returns c = batches_within
