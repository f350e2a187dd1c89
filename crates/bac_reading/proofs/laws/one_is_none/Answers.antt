use Rattle.bac_files.specs.Parts.{part_rules}
use Rattle.bac_reading.proofs.StatusLemmas.{one_is_none}
use Rattle.bac_reading.proofs.laws.one_is_none.Goals as goal

pub returns : goal.returns
returns g c = one_is_none (part_rules g.P.Parts.lists g.P.Parts.holds g.P.Parts.bars)
