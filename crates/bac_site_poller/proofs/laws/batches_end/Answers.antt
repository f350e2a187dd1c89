use Rattle.bac_site_poller.proofs.Batches.{batches_end}
use Rattle.bac_site_poller.proofs.laws.batches_end.Goals as goal

pub returns : goal.returns
returns c = batches_end
