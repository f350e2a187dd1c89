use Rattle.bac_site_poller.proofs.MayBe.{strays_may_be}
use Rattle.bac_site_poller.proofs.laws.strays_may_be.Goals as goal

pub returns : goal.returns
returns c = strays_may_be
