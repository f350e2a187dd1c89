use Rattle.bac_site_laws.proofs.OwnRows.{numbers_once}
use Rattle.bac_site_laws.proofs.laws.numbers_once.Goals as goal

pub returns : goal.returns
returns c = numbers_once c.each_shown_once.ensures
