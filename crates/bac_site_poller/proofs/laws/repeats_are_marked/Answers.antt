use Rattle.bac_site_poller.proofs.SeatedRun.{repeats_are_marked}
use Rattle.bac_site_poller.proofs.laws.repeats_are_marked.Goals as goal

pub returns : goal.returns
returns c = repeats_are_marked
