use Rattle.bac_site_laws.proofs.Logged.{rows_are_logged}
use Rattle.bac_site_laws.proofs.laws.rows_are_logged.Goals as goal

pub returns : goal.returns
returns c = rows_are_logged c.each_shown_once.ensures
