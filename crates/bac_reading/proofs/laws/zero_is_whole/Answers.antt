use Rattle.bac_files.specs.Parts.{part_rules}
use Rattle.bac_reading.proofs.RunLemmas.{is_whole}
use Rattle.bac_reading.proofs.laws.zero_is_whole.Goals as goal

pub returns : goal.returns
returns g c = is_whole (part_rules g.P.Parts.lists g.P.Parts.holds g.P.Parts.bars)
