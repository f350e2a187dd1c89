use Rattle.bac_site_laws.proofs.OwnRows.{rows_are_told}
use Rattle.bac_site_laws.proofs.laws.rows_are_told.Goals as goal

pub returns : goal.returns
returns c = rows_are_told c.each_shown_once.ensures
