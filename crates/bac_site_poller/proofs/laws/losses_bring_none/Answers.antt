use Rattle.bac_site_poller.proofs.Losses.{losses_bring_none}
use Rattle.bac_site_poller.proofs.laws.losses_bring_none.Goals as goal

pub returns : goal.returns
returns c = losses_bring_none
