use Rattle.bac_site_poller.proofs.SeatedRun.{site_rows_came}
use Rattle.bac_site_poller.proofs.laws.site_rows_came.Goals as goal

pub returns : goal.returns
returns c = site_rows_came
