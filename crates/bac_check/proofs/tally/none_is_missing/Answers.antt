use Rattle.bac_check.proofs.HoleLemmas.{none_missing}
use Rattle.bac_check.proofs.tally.none_is_missing.Goals as goal

pub returns : goal.returns
returns c = none_missing
