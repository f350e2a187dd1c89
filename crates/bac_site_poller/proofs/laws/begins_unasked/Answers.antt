use Rattle.bac_site_poller.proofs.Ended.{begins_unasked}
use Rattle.bac_site_poller.proofs.laws.begins_unasked.Goals as goal

pub returns : goal.returns
returns c = begins_unasked
