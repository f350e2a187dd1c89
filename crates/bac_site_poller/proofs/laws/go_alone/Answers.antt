use Rattle.bac_site_poller.proofs.Alone.{go_alone}
use Rattle.bac_site_poller.proofs.laws.go_alone.Goals as goal

pub returns : goal.returns
returns c = go_alone
