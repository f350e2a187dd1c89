use Rattle.bac_check.proofs.TallyLemmas.{holes_are}
use Rattle.bac_check.proofs.laws.holes_are_missing.Goals as goal

pub returns : goal.returns
returns c = holes_are
