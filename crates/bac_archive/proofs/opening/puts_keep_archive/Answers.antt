use Rattle.bac_archive.proofs.KeepLemmas.{keep_archive}
use Rattle.bac_archive.proofs.opening.puts_keep_archive.Goals as goal

pub returns : goal.returns
returns c = keep_archive
