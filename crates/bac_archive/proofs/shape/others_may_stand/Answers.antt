use Rattle.bac_archive.proofs.AroundLemmas.{made_has}
use Rattle.bac_archive.proofs.BesideLemmas.{stand_beside}
use Rattle.bac_archive.proofs.shape.others_may_stand.Goals as goal

pub returns-clause-beside : goal.returns-clause-beside
returns-clause-beside c = stand_beside

pub returns-clause-made : goal.returns-clause-made
returns-clause-made c = made_has
