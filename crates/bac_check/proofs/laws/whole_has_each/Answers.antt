use Rattle.bac_check.proofs.WholeLemmas.{whole_has_each}
use Rattle.bac_check.proofs.laws.whole_has_each.Goals as goal

pub returns : goal.returns
returns c = whole_has_each
