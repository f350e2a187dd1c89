use Rattle.bac_check.proofs.TallyLemmas.{all_counted}
use Rattle.bac_check.proofs.tally.all_are_counted.Goals as goal

pub returns : goal.returns
returns c = all_counted
