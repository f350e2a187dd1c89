use Rattle.bac_site_poller.proofs.Dated.{sends_are_dated}
use Rattle.bac_site_poller.proofs.laws.sends_are_dated.Goals as goal

pub returns : goal.returns
returns c = sends_are_dated
