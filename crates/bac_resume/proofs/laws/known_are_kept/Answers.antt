use Rattle.bac_resume.proofs.Kept.{known_kept}
use Rattle.bac_resume.proofs.laws.known_are_kept.Goals as goal

pub returns : goal.returns
returns c = known_kept
