use Rattle.bac_site_poller.proofs.Ended.{all_have_ended}
use Rattle.bac_site_poller.proofs.laws.all_have_ended.Goals as goal

pub returns : goal.returns
returns c = all_have_ended
