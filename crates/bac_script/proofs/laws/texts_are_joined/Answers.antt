use Rattle.bac_script.proofs.PlayLemmas.{play-append}
use Rattle.bac_script.proofs.laws.texts_are_joined.Goals as goal

pub returns : goal.returns
returns c = play-append
