use Rattle.bac_files.specs.Parts.{part_rules}
use Rattle.bac_reading.proofs.RunLemmas.{prints_each}
use Rattle.bac_reading.proofs.laws.zero_prints_each.Goals as goal

pub returns : goal.returns
returns g c = prints_each (part_rules g.P.Parts.lists g.P.Parts.holds g.P.Parts.bars)
