use Rattle.bac_site_poller.proofs.Batches.{batches_come}
use Rattle.bac_site_poller.proofs.laws.batches_come.Goals as goal

pub returns : goal.returns
returns c = batches_come
