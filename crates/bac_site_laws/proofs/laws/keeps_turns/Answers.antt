use Rattle.bac_site_laws.proofs.OwnRows.{keeps_turns}
use Rattle.bac_site_laws.proofs.laws.keeps_turns.Goals as goal

pub returns : goal.returns
returns c = keeps_turns
