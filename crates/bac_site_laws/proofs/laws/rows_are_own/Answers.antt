use Rattle.bac_site_laws.proofs.Tracks.{rows_are_own}
use Rattle.bac_site_laws.proofs.laws.rows_are_own.Goals as goal

pub returns : goal.returns
returns c = rows_are_own
