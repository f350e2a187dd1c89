use Rattle.std.proofs.Common.{inr, refl}
use Rattle.bac_site_poller.proofs.moment.moment_after.Goals as goal

pub returns-in-None : goal.returns-in-None
returns-in-None c = inr (c.in-None.ensures.none, refl)
