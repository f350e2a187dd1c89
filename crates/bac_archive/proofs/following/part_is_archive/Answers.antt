use Rattle.bac_archive.proofs.PartLemmas.{part_is_archive}
use Rattle.bac_archive.proofs.following.part_is_archive.Goals as goal

pub returns : goal.returns
returns c = part_is_archive
